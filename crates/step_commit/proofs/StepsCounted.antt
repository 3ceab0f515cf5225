-- The accounts after a part's private steps, and the counts of its heap.
use Rattle.step_commit.proofs.Common.{arith, ◌≡◌, ℕ, ◌+◌, ◌<◌, ◌≤◌, ◌^◌, Bool, Option, Some, None, List, slice_get, refl, ap, sym, subst, ◌∙◌, Name, MachineState, Running, field_limit, Heap, Ledger, heap_of, let_go, or_fresh, task_steps, SoundLedger, heap_machine, task_steps_more, task_steps_sound, limit_small, LeafHeapValue as HeapOfCode, ArePrivate, StepsAlone, own, rested, heap_then, rested_alone, steps_alone_all, with_at, rested_sound, rested_view, alone_along, alone_back, Memory, Private, HeapMatchesAccount, KeepsAccounts, RanBy, account_after, FitsNow as FitsMachine, steps, Places, Ran, SharedValue, accounts, value_of, IsSharedValue, WorkerPartFits, above_of, account_idle, steady, packs_few, status, After, hold_same, RunsSteps}
use Rattle.core_invariant.proofs.NextStepAsks as ask
use Rattle.core_invariant.proofs.PartFitsMachine as link
use Rattle.step_commit.proofs.WordsFew.{asks_few, since_after}
use Rattle.step_commit.proofs.NextPrivateSteps.{Follows, follows, private_more, ran_machine, ran_private}
use Rattle.step_commit.proofs.LastSteps.{fits_machine}

-- ---- ACCOUNTS

-- from one to the other of two accounts after steps of one task
alone_between : (l a b : Ledger) (t : ℕ) → StepsAlone l a t → StepsAlone l b t → StepsAlone a b t
alone_between l a b t A B = alone_along t a l b (alone_back t l a A) B

rested_counts : (h : HeapOfCode) (a g : Heap) → a ≡ let_go g → HeapMatchesAccount h g → HeapMatchesAccount h a
rested_counts h a g e C =
    let D : HeapMatchesAccount h (let_go g) = record { chunks = C.chunks; large = C.large; last = C.last; last_large = C.last_large; room = C.room; since = C.since; reserved = C.reserved } in
    subst (HeapMatchesAccount h) (sym e) D

heap_rested : (l : Ledger) (t : ℕ) (a : Heap) → slice_get l.heaps t ≡ Some a → heap_of (rested l t) t ≡ let_go a
heap_rested l t a e = ap or_fresh (with_at l t let_go ∙ ap (heap_then let_go) e)

-- ---- THE PART

module _ (w : SharedValue) (k : ℕ) (p q : Private) (n : ℕ) (I : IsSharedValue w) (F : WorkerPartFits w k p) (on : (accounts w).end ≡ None) (idle : p.begun ≡ None) (R : RunsSteps w.program p n q) (C : KeepsAccounts w.program p n q) where
  abbrev l : Ledger
  l = accounts w

  abbrev t : ℕ
  t = p.task

  abbrev v : Memory
  v = value_of w

  abbrev above : Places
  above = above_of v l t

  abbrev M : Ledger
  M = task_steps w.program l t p.fresh

  abbrev M' : Ledger
  M' = task_steps w.program M t n

  abbrev N : Ledger
  N = task_steps w.program l t (p.fresh + n)

  abbrev L : Ledger
  L = rested M t

  abbrev L' : Ledger
  L' = rested N t

  more : N ≡ M'
  more = task_steps_more w.program t p.fresh n l

  pub goes : l.machine.end ≡ None
  goes = link.goes w k p I F on

  abbrev A : After l M t F.fits.task
  A = link.A w k p I F on

  run : A.task.status ≡ Running
  run = A.status ∙ status w k p I F on

  now_goes : M.machine.end ≡ None
  now_goes = A.goes ∙ goes

  abbrev heap_is_in_ledger : (h : Heap) × (slice_get M.heaps t ≡ Some h)
  heap_is_in_ledger = ask.account_is w k p I F on

  account_was : heap_of M t ≡ heap_is_in_ledger.0
  account_was = ap or_fresh heap_is_in_ledger.1

  counts : HeapMatchesAccount p.heap heap_is_in_ledger.0
  counts = subst (HeapMatchesAccount p.heap) account_was (ask.counted_is w k p I F on)

  -- ---- THE STEPS
  pub ran : Ran w.program p M.machine above n q
  ran = R M.machine above (fits_machine w k p I F on)

  leaf_few : p.leaf_limit ≤ 1000000
  leaf_few = let a : p.leaf_limit ≡ w.settings.leaf = F.leaf_limit in let b : w.settings.leaf ≤ 1000000 = I.settings.leaf.1 in omega (arith, a, b)

  small : p.leaf_limit < 2 ^ 64
  small = let a = leaf_few in omega (arith, a)

  pub private_then : ArePrivate w.program w.settings l t (p.fresh + n)
  private_then =
      private_more w.program w.settings t p.fresh n l (link.V w k p I F on).private
      (ran_private w.program w.settings p q n R C F.leaf_limit small M A.task heap_is_in_ledger.0 now_goes A.is run heap_is_in_ledger.1 above (fits_machine w k p I F on) counts)

  follows_until : (i : ℕ) → i ≤ n → Follows w.program w.settings t M A.task heap_is_in_ledger.0 i
  follows_until i le = follows w.program w.settings t M A.task heap_is_in_ledger.0 now_goes A.is run heap_is_in_ledger.1 i (λ j lt. ran.private j (omega (arith, lt, le)))

  G : Follows w.program w.settings t M A.task heap_is_in_ledger.0 n
  G = follows_until n (omega arith)

  -- the account of its heap
  abbrev later : Heap
  later = account_after w.program M.machine t heap_is_in_ledger.0 n

  heap_is : slice_get N.heaps t ≡ Some later
  heap_is = ap (λ (z : Ledger). slice_get z.heaps t) more ∙ G.heap

  is_rested : heap_of L' t ≡ let_go later
  is_rested = heap_rested N t later heap_is

  accounted : RanBy w.program p M.machine n q heap_is_in_ledger.0
  accounted = C M.machine above heap_is_in_ledger.0 (fits_machine w k p I F on) small counts

  pub begun_then : (heap_of L' t).begun ≡ None
  begun_then =
      rested_view (λ (h : Heap). h.begun) (λ h. refl) N t
      ∙ (ap (λ (z : Ledger). (heap_of z t).begun) more
      ∙ (ap (λ (x : Option ℕ × Option ℕ × List Name × Bool). x.1) (hold_same (slice_get M.heaps t) (slice_get M'.heaps t) G.after.heap) ∙ (ap (λ (x : Option ℕ × Option ℕ × List Name × Bool). x.1) (hold_same (slice_get l.heaps t) (slice_get M.heaps t) A.heap) ∙ account_idle w k p F on idle)))

  limit_at : (i : ℕ) → i ≤ n → (steps w.program M.machine t i).field_limit ≡ field_limit w.settings.version
  limit_at i le = let B = follows_until i le in ap (λ (m : MachineState). m.field_limit) (sym B.machine) ∙ (B.after.limit ∙ (A.limit ∙ link.limit w k p I F on))

  later_few : later.since < 2 ^ 64
  later_few =
      let f : field_limit w.settings.version ≤ 1000000 = limit_small w.settings.version in
      let leaf = leaf_few in
      let was : p.heap.since < 2 ^ 64 = F.form.since in
      let same : p.heap.since ≡ heap_is_in_ledger.0.since = ask.since_is w k p I F on ∙ ap (λ (h : Heap). h.since) account_was in
      since_after w.program M.machine t heap_is_in_ledger.0 p.leaf_limit (field_limit w.settings.version + 34) (omega (arith, was, same)) (omega (arith, f, leaf)) n accounted.not_due
      (λ i lt words e. asks_few w.program (packs_few w.program I.form) (field_limit w.settings.version) (steps w.program M.machine t i) t words (limit_at i (omega (arith, lt))) e)

  -- ---- WHAT IS KNOWN AFTERWARDS
  pub machine_then : FitsMachine w.program q L'.machine above
  machine_then =
      subst (λ (m : MachineState). FitsMachine w.program q m above) (sym (heap_machine N t let_go ∙ ap (λ (z : Ledger). z.machine) more))
      (ran_machine w.program w.settings p q n R C F.leaf_limit small M A.task heap_is_in_ledger.0 now_goes A.is run heap_is_in_ledger.1 above (fits_machine w k p I F on) counts)

  pub counts_then : HeapMatchesAccount q.heap (heap_of L' t)
  counts_then = rested_counts q.heap (heap_of L' t) later is_rested accounted.counted

  pub account_few : (heap_of L' t).since < 2 ^ 64
  account_few = subst (λ (h : Heap). h.since < 2 ^ 64) (sym is_rested) later_few

  sound_at : SoundLedger N
  sound_at = (task_steps_sound w.program (p.fresh + n) l t ((link.knows w k p I F on).sound, steady w k p F on idle)).0

  pub sound_then : SoundLedger L'
  sound_then = rested_sound N t sound_at

  all_alone : StepsAlone l L' t
  all_alone = rested_alone l N t (steps_alone_all w.program w.settings t (p.fresh + n) l ((link.knows w k p I F on).sound, steady w k p F on idle) private_then)

  pub alone_then : StepsAlone L L' t
  alone_then = alone_between l L L' t (link.alone w k p I F on) all_alone

  pub owner_then : (m : Name) → own L' m ≡ own l m
  owner_then m = all_alone.tree.owners m.task
