-- A part that fits the shared value fits it again after private steps.
use Rattle.step_commit.proofs.Common.{arith, ◌≡◌, ℕ, ◌+◌, ◌-◌, ◌*◌, ◌/◌, ◌≤◌, ◌^◌, not, Some, None, min, ne_eqb, inr, refl, ap, sym, subst, ◌∙◌, All-from_get_or, All-get_or, in_map, Name, Ledger, heap_of, task_steps, Addr, ChunkValue, chunk_at, no_chunk, words_in, IsObject, chunk_there, Slot, slot_at, AreTidy, CellsFitInChunks, IsTidy, are_near, Rests, own, rested, rested_worker, Belongings, In, Lies, Memory, objects, objects_of_chunks, StepsInBelongings, PartFits, with_belongings, BelongingsStand, LiesWithOwner, MemoryStands, BegunBy, in_chunk, stepped, at_belongings, off_belongings, aside_is, Private, HeapMatchesAccount, KeepsAccounts, FitsNow as FitsMachine, Places, KeepsRest, Ran, KeepsPlaces, chunk_of, SharedValue, accounts, value_of, IsMeasured, HeapForm, IsSharedValue, WorkerPartFits, belongings_of_part, part_of, above_of, object_seen, seen_object, Formed, formed_tidy, steady, place_there, run_keeps_places, RunsSteps}
use Rattle.core_invariant.proofs.PartFitsMachine as link
use Rattle.step_commit.proofs.StepsCounted as run
use Rattle.step_commit.proofs.FormByOutline.{run_formed}
use Rattle.step_commit.proofs.PartBelongings.{belongings_read}

module _ (w : SharedValue) (k : ℕ) (p q : Private) (n : ℕ) (I : IsSharedValue w) (F : WorkerPartFits w k p) (on : (accounts w).end ≡ None) (idle : p.begun ≡ None) (R : RunsSteps w.program p n q) (C : KeepsAccounts w.program p n q) (rest : KeepsRest p q) (few : p.fresh + n ≤ 257) where
  abbrev l : Ledger
  l = accounts w

  abbrev t : ℕ
  t = p.task

  abbrev v : Memory
  v = value_of w

  abbrev above : Places
  above = above_of v l t

  -- the accounts before the steps and after them, its task at rest
  abbrev L : Ledger
  L = rested (task_steps w.program l t p.fresh) t

  abbrev L' : Ledger
  L' = rested (task_steps w.program l t (p.fresh + n)) t

  ran : Ran w.program p (task_steps w.program l t p.fresh).machine above n q
  ran = run.ran w k p q n I F on idle R C

  abbrev Q : Private
  Q = record p { frames = q.frames; heap = q.heap; allocations = q.allocations; fresh = p.fresh + n }

  q_is : q ≡ Q
  q_is = rest ∙ ap (λ j. record p { frames = q.frames; heap = q.heap; allocations = q.allocations; fresh = j }) ran.fresh

  machine_then : FitsMachine w.program Q L'.machine above
  machine_then = subst (λ (z : Private). FitsMachine w.program z L'.machine above) q_is (run.machine_then w k p q n I F on idle R C)

  counts_then : HeapMatchesAccount q.heap (heap_of L' t)
  counts_then = run.counts_then w k p q n I F on idle R C

  abbrev before : Memory
  before = with_belongings v t (belongings_of_part p)

  abbrev after : Memory
  after = with_belongings v t (belongings_of_part Q)

  abbrev was : before.belongings t ≡ belongings_of_part p
  was = at_belongings v t (belongings_of_part p)

  abbrev own_belongings : after.belongings t ≡ belongings_of_part Q
  own_belongings = at_belongings v t (belongings_of_part Q)

  old : BelongingsStand before L t
  old = (link.W w k p I F on).belongings t (link.at_rest w k p I F on)

  old_chunk : (c : ChunkValue) → In p.heap.chunks c → In (before.belongings t).chunks (chunk_of c)
  old_chunk c i = subst (λ (h : Belongings). In h.chunks (chunk_of c)) (sym was) (in_map chunk_of p.heap.chunks c i)

  -- what is known of its heap
  formed_before : Formed p.heap
  formed_before = record {
    shaped = F.form.shaped;
    each = λ i lt.
        let c = chunk_at p.heap.chunks i in
        record {
          tidy = All-get_or IsTidy p.heap.chunks i no_chunk lt F.form.tidy;
          within = All-get_or (λ (x : ChunkValue). words_in x.cells ≤ x.size) p.heap.chunks i no_chunk lt F.form.within;
          whole = F.form.whole c (chunk_there p.heap.chunks i lt);
          large = λ big. old.laid.large (chunk_of c) (old_chunk c (chunk_there p.heap.chunks i lt)) (ap not (ne_eqb c.size 1024 big));
        };
    spare = F.form.spare;
  }

  formed_then : Formed q.heap
  formed_then = run_formed w.program p q (task_steps w.program l t p.fresh).machine above n ran formed_before

  keeps : KeepsPlaces p.heap q.heap
  keeps = run_keeps_places w.program p q (task_steps w.program l t p.fresh).machine above n ran

  tidy_then : AreTidy q.heap.chunks
  tidy_then = formed_tidy q.heap formed_then

  within_then : CellsFitInChunks q.heap.chunks
  within_then = All-from_get_or (λ (x : ChunkValue). words_in x.cells ≤ x.size) q.heap.chunks no_chunk (λ i lt. (formed_then.each i lt).within)

  form_then : HeapForm q.heap
  form_then = record {
    shaped = formed_then.shaped;
    near = λ o i. let y = seen_object q.heap.chunks o formed_then.shaped.apart i in are_near q.heap.chunks tidy_then within_then o.at (subst IsObject (sym y.mark) tt);
    tidy = tidy_then;
    within = within_then;
    last = counts_then.last;
    last_large = counts_then.last_large;
    since = let e : q.heap.since ≡ min (heap_of L' t).since (2 ^ 64 - 1) = counts_then.since in omega (arith, e);
    whole = λ c i. (let x = place_there q.heap.chunks c i in subst (λ (z : ChunkValue). z.size ≡ 1024 * (z.size / 1024)) x.2 (formed_then.each x.0 x.1).whole);
    spare = formed_then.spare;
  }

  -- ---- THE VALUE WITH IT: each object keeps its address
  stays : (m : Name) (a : Addr) → Lies (before.belongings t).chunks m a → Lies (after.belongings t).chunks m a
  stays m a y =
      let z = seen_object p.heap.chunks y.0 F.form.shaped.apart (subst (λ (h : Belongings). In (objects_of_chunks h.chunks) y.0) was y.1) in
      let i = object_seen q.heap.chunks y.0.at y.0.birth (keeps.stays y.0.at y.0.birth z.mark) in
      subst (λ (h : Belongings). Lies h.chunks m a) (sym own_belongings) (_, i, record { name = y.2.name; at = y.2.at })

  at_belongings_then : StepsInBelongings before after t
  at_belongings_then = record {
    others = λ u ne. off_belongings v t (belongings_of_part Q) u ne ∙ sym (off_belongings v t (belongings_of_part p) u ne);
    owner = λ c. refl;
    sources = λ u. refl;
    view = ap (λ (z : Belongings). z.view) own_belongings ∙ ap (λ (z : Belongings). z.view) (sym was);
    stays = stays;
  }

  owned_then : (c : ChunkValue) → In q.heap.chunks c → v.owner c.number ≡ Some t
  owned_then c i = let j = keeps.numbers c i in ap v.owner (sym j.2) ∙ old.owned (chunk_of j.0) (old_chunk j.0 j.1)

  -- another's object keeps its address
  elsewhere : (m : Name) (a : Addr) → (own L' m ≡ t → ⊥) → above m ≡ Some a → LiesWithOwner after L' m a
  elsewhere m a ne e =
      let x = link.above_tells w k p I F on m a e in
      let f = link.found_is (objects v (own l m)) m a x.2 in
      let u : ℕ = own l m in
      let same : own L' m ≡ u = run.owner_then w k p q n I F on idle R C m in
      let r : Rests L u = link.rests_then w k p I F on u x.0 x.1 in
      let H : BelongingsStand before L u = (link.W w k p I F on).belongings u r in
      let i : In (objects before u) f.object = subst (λ (h : Belongings). In (objects_of_chunks h.chunks) f.object) (sym (off_belongings v t (belongings_of_part p) u x.0)) f.there in
      let c = in_chunk (before.belongings u).chunks f.object i in
      let owner : v.owner a.chunk ≡ Some u = ap (λ (z : Addr). v.owner z.chunk) (sym f.at) ∙ (ap v.owner (H.inside c.0 f.object c.1 c.2) ∙ H.owned c.0 c.1) in
      record {
        chunk = owner ∙ ap Some (sym same);
        here = λ z. subst (λ y. Lies (after.belongings y).chunks m a) (sym same) (subst (λ (h : Belongings). Lies h.chunks m a) (sym (off_belongings v t (belongings_of_part Q) u x.0)) (f.object, f.there, record { name = f.name; at = f.at }));
      }

  stands_then : MemoryStands after L'
  stands_then =
      stepped before after L L' t (link.sound w k p I F on) (run.sound_then w k p q n I F on idle R C) (link.W w k p I F on) (run.alone_then w k p q n I F on idle R C)
      (link.at_rest w k p I F on) (rested_worker (task_steps w.program l t (p.fresh + n)) t) (link.idle w k p I F on) at_belongings_then
      (belongings_read w.program Q L' above machine_then formed_then counts_then (run.account_few w k p q n I F on idle R C) after own_belongings owned_then elsewhere)

  measured_then : IsMeasured w.pool Q
  measured_then = (
    λ c i. (let j = keeps.numbers c i in ap (slot_at w.pool) (sym j.2) ∙ (F.measured.0 j.0 j.1 ∙ ap (λ n. let h : Slot = record { owner = t; units = n / 1024 } in Some h) j.3)),
    F.measured.1,
  )

  again : WorkerPartFits w k Q
  again = record {
    out = F.out;
    fits = record {
      task = F.fits.task;
      is = F.fits.is;
      runs = F.fits.runs;
      steady = inr (steady w k p F on idle);
      part = subst (PartFits w.program w.settings (part_of w.settings Q) v) (sym (aside_is l (link.goes w k p I F on)))
          (record { fits = record { worker = k; out = F.out; few = few; private = run.private_then w k p q n I F on idle R C; stands = stands_then }; begun = subst (λ o. BegunBy after L' t o) (sym idle) (run.begun_then w k p q n I F on idle R C) });
      leaf = refl;
      fields = refl;
    };
    form = form_then;
    measured = measured_then;
    leaf_limit = F.leaf_limit;
    field_limit = F.field_limit;
  }

  -- THE PART FITS AGAIN
  pub parts_fit_again : WorkerPartFits w k q
  parts_fit_again = subst (WorkerPartFits w k) (sym q_is) again
