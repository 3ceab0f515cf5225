-- What the pace asks for is never refused.
use Rattle.journal_laws.proofs.Common.{◌≡◌, ℕ, zero, suc, ◌+◌, ◌<◌, ◌≤◌, ◌==◌, not, Bool, true, false, cond, Option, Some, None, List, [], ◌∷◌, ◌++◌, slice_get, slice_set, nat_lt, nat_le, ◌⊎◌, inl, inr, refl, ap, sym, subst, ◌∙◌, arith, is_some, is_none, eq-eqb, replicate, length, false≢true, both_ways, cases_eq, and_parts, not-true, same_Some, In, got_same, got_other, got_within, in_append_cases, got_none, Kind, Took, Ran, Chunk, Begin, End as EndOf, PutOff, Mark, More, Sweep, Fuel, EntryValue, SettingsValue, ProgramText, Strand, Waiting, Task, MachineState, onward, waits, is_waiting, child, joined_task, resumed, ended_task, result_of, step, can_step, asked, strand_of, step_cases, grown_at, grown_other, three_top, three_left, three_right, three_other, below, Heap, Ledger, Pool, Previous, Other, Forked, WorkerPace, heap_at, heap_of, or_fresh, with_heap, with_heap_at, words_in, left_in, in_use, is_small_size, chunk_words, collected, swept_heap, sweep_number, allocated_in, stepped_to, task_step, task_steps, on_asked, refusal, kind_refusal, after_kind, after, on_marking, refused_if, refused_unless, with_chunk, chunk_units, opening, after_all, ledger_of, is_legal_from, waits_since, waits_on, is_unmarked, is_to_mark, is_under_way, more_of, owed_to_marks, owed_after, idle, pace_of, pace_opening, fork_of, pace_noted, pace_after, pace_after_all, pace_at_end, CanBeGiven, OwedCanBeGiven, stepped_machine, heap_machine, SoundLedger, SoundAt, step_keeps, step_leaves, steps_keep, can_tells, with_heap_any, out_tells, wait_tells, entry_tells, entry_sound, opening_sound, wait_run}
use Rattle.std.proofs.lemmas.Bool.{eqb-true}
use Rattle.hh_model.proofs.ForkJoinStates.{IsForkJoinState}
use Rattle.run_ledger.specs.declared.data.Previous.TheVariants.{Ran as RanBefore}
use Rattle.run_ledger.specs.declared.data.Owed.TheVariants.{Mark as OwesMark, More as OwesMore, Sweep as OwesSweep}

-- TASKS

-- the number of a task's joins never falls
pub joins_grow : (p : ProgramText) (m : MachineState) (t u : ℕ) (x : Task) → IsForkJoinState m → slice_get m.tasks u ≡ Some x → (y : Task) × (slice_get (step p m t).tasks u ≡ Some y) × (x.joins ≤ y.joins)
joins_grow p m t u x K at =
    step_cases p m t K (λ m'. (y : Task) × (slice_get m'.tasks u ≡ Some y) × (x.joins ≤ y.joins)) joins_grow_same (λ z e is r why. joins_grow_same)
    (λ z y store outs is r ep ed es ej names fields alters grows. set z y is (omega (arith, ej)))
    (λ z parent e is r pp which result. set z (ended_task z (result_of z.top)) is (omega arith))
    (λ z g h is r next top.
    let w : Task = record z { status = Waiting; top = onward z.top } in
    let cl : Task = child t (z.depth + 1) g z.top in
    let cr : Task = child t (z.depth + 1) h z.top in
    elim (cases_eq u t) [
      | inl e ↦ (w, ap (slice_get (slice_set m.tasks t w ++ cl ∷ cr ∷ [])) e ∙ grown_at m.tasks t z w cl cr is, let q : x ≡ z = same_Some x z (sym at ∙ (ap (slice_get m.tasks) e ∙ is)) in let j = ap (λ (v : Task). v.joins) q in omega arith)
      | inr ne ↦ (x, grown_other m.tasks t z w cl cr is u (got_within m.tasks u x at) ne ∙ at, omega arith)
    ])
    (λ parent l xp xl xr rl rr ip il ir pl left dl dr wl wr nl nr side.
    let under = below m.tasks m.edges l parent xl xr xp rl rr il ir ip pl left dl dr wl wr K.tree in
    elim (cases_eq u parent) [
      | inl e ↦ (resumed xp rl rr, ap (slice_get _) e ∙ three_top m.tasks l parent xl xr xp (joined_task xl) (joined_task xr) (resumed xp rl rr) il ir ip under, let q : x ≡ xp = same_Some x xp (sym at ∙ (ap (slice_get m.tasks) e ∙ ip)) in let j = ap (λ (v : Task). v.joins) q in omega arith)
      | inr np ↦ elim (cases_eq u l) [
        | inl e ↦ (joined_task xl, ap (slice_get _) e ∙ three_left m.tasks l parent xl xr xp (joined_task xl) (joined_task xr) (resumed xp rl rr) il ir ip under, let q : x ≡ xl = same_Some x xl (sym at ∙ (ap (slice_get m.tasks) e ∙ il)) in let j = ap (λ (v : Task). v.joins) q in omega arith)
        | inr nl' ↦ elim (cases_eq u (l + 1)) [
          | inl e ↦ (joined_task xr, ap (slice_get _) e ∙ three_right m.tasks l parent xl xr xp (joined_task xl) (joined_task xr) (resumed xp rl rr) il ir ip under, let q : x ≡ xr = same_Some x xr (sym at ∙ (ap (slice_get m.tasks) e ∙ ir)) in let j = ap (λ (v : Task). v.joins) q in omega arith)
          | inr nr' ↦ (x, three_other m.tasks l parent xl xr xp (joined_task xl) (joined_task xr) (resumed xp rl rr) il ir ip under u nl' nr' np ∙ at, omega arith)
        ]
      ]
    ])
  where
    joins_grow_same : (y : Task) × (slice_get m.tasks u ≡ Some y) × (x.joins ≤ y.joins)
    joins_grow_same = (x, at, omega arith)

    set : (z y : Task) → slice_get m.tasks t ≡ Some z → z.joins ≤ y.joins → (y' : Task) × (slice_get (slice_set m.tasks t y) u ≡ Some y') × (x.joins ≤ y'.joins)
    set z y is le = elim (cases_eq u t) [
      | inl e ↦
          (y, ap (slice_get (slice_set m.tasks t y)) e ∙ got_same m.tasks t z y is, let q : x ≡ z = same_Some x z (sym at ∙ (ap (slice_get m.tasks) e ∙ is)) in let j = ap (λ (v : Task). v.joins) q in omega arith)
      | inr ne ↦ (x, got_other m.tasks t u y ne ∙ at, omega arith)
    ]

-- a task that waits still waits, unchanged, or has had one more join
pub waiting_moves : (p : ProgramText) (m : MachineState) (t u : ℕ) (x : Task) → IsForkJoinState m → (u ≡ t → ⊥) → slice_get m.tasks u ≡ Some x → waits x.status ≡ true
    → (slice_get (step p m t).tasks u ≡ Some x) ⊎ ((y : Task) × (slice_get (step p m t).tasks u ≡ Some y) × (x.joins < y.joins))
waiting_moves p m t u x K ne at w =
    step_cases p m t K (λ m'. (slice_get m'.tasks u ≡ Some x) ⊎ ((y : Task) × (slice_get m'.tasks u ≡ Some y) × (x.joins < y.joins))) (inl at) (λ z e is r why. inl at)
    (λ z y store outs is r ep ed es ej names fields alters grows. inl (got_other m.tasks t u y ne ∙ at))
    (λ z parent e is r pp which result. inl (got_other m.tasks t u (ended_task z (result_of z.top)) ne ∙ at))
    (λ z g h is r next top. inl (grown_other m.tasks t z (record z { status = Waiting; top = onward z.top }) (child t (z.depth + 1) g z.top) (child t (z.depth + 1) h z.top) is u (got_within m.tasks u x at) ne ∙ at))
    (λ parent l xp xl xr rl rr ip il ir pl left dl dr wl wr nl nr side.
    let under = below m.tasks m.edges l parent xl xr xp rl rr il ir ip pl left dl dr wl wr K.tree in
    elim (cases_eq u parent) [
      | inl e ↦ inr (resumed xp rl rr, ap (slice_get _) e ∙ three_top m.tasks l parent xl xr xp (joined_task xl) (joined_task xr) (resumed xp rl rr) il ir ip under, let q : x ≡ xp = same_Some x xp (sym at ∙ (ap (slice_get m.tasks) e ∙ ip)) in let j = ap (λ (v : Task). v.joins) q in omega arith)
      | inr np ↦ inl (three_other m.tasks l parent xl xr xp (joined_task xl) (joined_task xr) (resumed xp rl rr) il ir ip under u
          (λ e. let q : x ≡ xl = same_Some x xl (sym at ∙ (ap (slice_get m.tasks) e ∙ il)) in both_ways (waits x.status) (ap (λ (v : Task). waits v.status) q ∙ wl) w)
          (λ e. let q : x ≡ xr = same_Some x xr (sym at ∙ (ap (slice_get m.tasks) e ∙ ir)) in both_ways (waits x.status) (ap (λ (v : Task). waits v.status) q ∙ wr) w) np ∙ at)
    ])

-- FORKS WHOSE HEAP WAS MARKED

-- the heap is marked or swept
abbrev pub Touched : Heap → Type 0
Touched h = (is_some h.marked ≡ true) ⊎ (h.swept ≡ true)

-- the task has joined since that fork, or waits on it and its heap is marked or swept
abbrev Past : MachineState → Strand → Type 0
Past m fork = (x : Task) × (slice_get m.tasks fork.task ≡ Some x) × (fork.joins < x.joins)

abbrev Going : Ledger → Strand → Type 0
Going l fork = (x : Task) × (slice_get l.machine.tasks fork.task ≡ Some x) × (x.joins ≡ fork.joins) × (waits x.status ≡ true) × Touched (heap_of l fork.task)

abbrev Known : Ledger → Strand → Type 0
Known l fork = Past l.machine fork ⊎ Going l fork

abbrev pub AllKnown : Ledger → List WorkerPace → Type 0
AllKnown l pace = (v : ℕ) (fork : Strand) → In (pace_of pace v).marks fork → Known l fork

-- a heap's account changes, and stays touched
known_heap : (l : Ledger) (t : ℕ) (f : Heap → Heap) → ((h : Heap) → Touched h → Touched (f h)) → (fork : Strand) → Known l fork → Known (with_heap l t f) fork
known_heap l t f touch fork (inl past) = inl (subst (λ (m : MachineState). Past m fork) (sym (heap_machine l t f)) past)
known_heap l t f touch fork (inr g) =
    with_heap_any (λ (k : Ledger). Known k fork) l t f (inr g) (λ h e. inr (
      g.0,
      g.1,
      g.2,
      g.3,
      elim (cases_eq fork.task t) [
        | inl q ↦ subst (λ o. Touched (or_fresh o)) (sym (ap (slice_get (slice_set l.heaps t (f h))) q ∙ got_same l.heaps t h (f h) e)) (touch h (subst (λ o. Touched (or_fresh o)) (ap (slice_get l.heaps) q ∙ e) g.4))
        | inr ne ↦ subst (λ o. Touched (or_fresh o)) (sym (got_other l.heaps t fork.task (f h) ne)) g.4
      ],
    ))

module _ (p : ProgramText) (l : Ledger) (t : ℕ) (S : SoundAt t l) (can : can_step l.machine t ≡ true) where
  abbrev k : Ledger
  k = stepped_to (allocated_in p l t) t (step p l.machine t)

  abbrev machine_is : k.machine ≡ step p l.machine t
  machine_is = stepped_machine (allocated_in p l t) t (step p l.machine t)

  past_step : (fork : Strand) (x : Task) → slice_get l.machine.tasks fork.task ≡ Some x → fork.joins < x.joins → Known k fork
  past_step fork x at lt =
      let y = joins_grow p l.machine t fork.task x S.0.fork_join at in
      inl (subst (λ (m : MachineState). Past m fork) (sym machine_is) (y.0, y.1, let le : x.joins ≤ y.0.joins = y.2 in omega arith))

  going_by : (fork : Strand) → (fork.task ≡ t → ⊥) → (g : Going l fork)
      → (slice_get (step p l.machine t).tasks fork.task ≡ Some g.0) ⊎ ((y : Task) × (slice_get (step p l.machine t).tasks fork.task ≡ Some y) × (g.0.joins < y.joins)) → Known k fork
  going_by fork ne g (inl same) =
      let at : slice_get k.machine.tasks fork.task ≡ Some g.0 = ap (λ (m : MachineState). slice_get m.tasks fork.task) machine_is ∙ same in
      inr (g.0, at, g.2, g.3, subst (λ o. Touched (or_fresh o)) (sym ((step_leaves p l t S can).4 fork.task ne (inr (ap is_waiting at ∙ g.3)))) g.4)
  going_by fork ne g (inr y) = inl (subst (λ (m : MachineState). Past m fork) (sym machine_is) (y.0, y.1, let lt : g.0.joins < y.0.joins = y.2 in let e : g.0.joins ≡ fork.joins = g.2 in omega arith))

  known_step : (fork : Strand) → Known l fork → Known k fork
  known_step fork (inl past) = past_step fork past.0 past.1 past.2
  known_step fork (inr g) = elim (cases_eq fork.task t) [
    | inl e ↦ absurd (wait_run l.machine t (ap is_waiting (ap (slice_get l.machine.tasks) (sym e) ∙ g.1) ∙ g.3) (can_tells l.machine t can).1)
    | inr ne ↦ going_by fork ne g (waiting_moves p l.machine t fork.task g.0 S.0.fork_join ne g.1 g.3)
  ]

known_task_step : (p : ProgramText) (l : Ledger) (t : ℕ) → SoundAt t l → (fork : Strand) → Known l fork → Known (task_step p l t) fork
known_task_step p l t S fork K = step_keeps (λ m. Known m fork) p l t (λ e. known_step p l t S e fork K) K

known_steps : (p : ProgramText) (k : ℕ) (l : Ledger) (t : ℕ) → SoundAt t l → (fork : Strand) → Known l fork → Known (task_steps p l t k) fork
known_steps p k l t S fork K = steps_keep (λ m. Known m fork) p t (λ m R J. known_task_step p m t R fork J) k l S K

-- ENTRIES

chunk_touched : (h : Heap) (n : ℕ) (v : Bool) → Touched h → Touched (cond v (record h { chunks = h.chunks ++ [] ∷ []; room = chunk_words }) (record h { reserved = n }))
chunk_touched h n true q = q
chunk_touched h n false q = q

known_chunk : (l : Ledger) (t : ℕ) (next : Option ℕ) (full : Bool) (fork : Strand) → Known l fork → Known (cond full (record l { end = Some (Pool (in_use l)) }) (with_heap l t (with_chunk next))) fork
known_chunk l t next true fork K = K
known_chunk l t next false fork K = known_heap l t (with_chunk next) (λ h q. chunk_touched h (chunk_units next) (on_asked next is_small_size) q) fork K

known_kind : (p : ProgramText) (s : SettingsValue) (l : Ledger) (w : ℕ) (kind : Kind) → SoundLedger l → is_none (kind_refusal p s l w kind) ≡ true → (fork : Strand) → Known l fork → Known (after_kind p s l w kind) fork
known_kind p s l w (Took t) S h fork K = known_heap l t _ (λ g q. q) fork K
known_kind p s l w (Ran t k) S h fork K = known_steps p k l t (S, (out_tells l w t _ h).1) fork K
known_kind p s l w (Chunk t) S h fork K = known_chunk l t (asked p l.machine t) (nat_lt s.chunks (in_use l + chunk_units (asked p l.machine t))) fork K
known_kind p s l w (Begin t) S h fork K = known_heap l t _ (λ g q. q) fork K
known_kind p s l w (EndOf t a g n) S h fork K = known_heap l t (collected l.machine) (λ g q. q) fork K
known_kind p s l w (PutOff t) S h fork K = known_heap l t _ (λ g q. q) fork K
known_kind p s l w (Mark t) S h fork K = known_heap l t _ (λ g q. inl refl) fork K
known_kind p s l w (More t n) S h fork K = known_heap l t _ (λ g q. inl refl) fork K
known_kind p s l w (Sweep t g) S h fork K = known_heap l t swept_heap (λ g q. inr refl) fork K
known_kind p s l w Fuel S h fork K = K

-- a fork whose heap begins to be marked
new_known : (l : Ledger) (t : ℕ) → (o : Option Task) → slice_get l.machine.tasks t ≡ o → is_waiting o ≡ true → SoundLedger l → (fork : Strand)
    → In (fork_of t (slice_get (with_heap l t (λ h. record h { marked = Some 0 })).machine.tasks t)) fork → Known (with_heap l t (λ h. record h { marked = Some 0 })) fork
new_known l t None e w S fork i = absurd (false≢true w)
new_known l t (Some x) e w S fork i =
    let f : Heap → Heap = λ h. record h { marked = Some 0 } in
    let at : slice_get (with_heap l t f).machine.tasks t ≡ Some x = ap (λ (m : MachineState). slice_get m.tasks t) (heap_machine l t f) ∙ e in
    let same : In (strand_of t x ∷ []) fork = subst (λ o. In (fork_of t o) fork) at i in
    new_known_by_cases (heap_at l t) refl at (elim same [ inl q ↦ q | inr none ↦ absurd none ])
  where
    new_known_by_cases : (o : Option Heap) → heap_at l t ≡ o → slice_get (with_heap l t (λ h. record h { marked = Some 0 })).machine.tasks t ≡ Some x → strand_of t x ≡ fork → Known (with_heap l t (λ h. record h { marked = Some 0 })) fork
    new_known_by_cases None e' at q = absurd (got_none l.heaps t (let lt : t < length l.machine.tasks = got_within l.machine.tasks t x e in omega (arith, S.lengths)) e')
    new_known_by_cases (Some h) e' at q =
        subst (λ (k : Ledger). Known k fork) (sym (ap (with_heap_at l t (λ h. record h { marked = Some 0 })) e'))
        (subst (λ (g : Strand). Known (record l { heaps = slice_set l.heaps t (record h { marked = Some 0 }) }) g) q
        (inr (x, e, refl, w, inl (ap (λ o. is_some (or_fresh o).marked) (got_same l.heaps t h (record h { marked = Some 0 }) e')))))

-- the forks recorded as marked by a worker
noted_cases : (p : ProgramText) (s : SettingsValue) (l : Ledger) (w : ℕ) (kind : Kind) (x : WorkerPace) → SoundLedger l → is_none (kind_refusal p s l w kind) ≡ true → ((fork : Strand) → In x.marks fork → Known l fork)
    → (fork : Strand) → In (pace_noted (after_kind p s l w kind) x kind).marks fork → Known (after_kind p s l w kind) fork
noted_cases p s l w (Mark t) x S h K fork i =
    elim (in_append_cases (fork_of t (slice_get (after_kind p s l w (Mark t)).machine.tasks t)) x.marks fork i) [
      | inl new ↦ new_known l t (slice_get l.machine.tasks t) refl (wait_tells l t _ h).0 S fork new
      | inr old ↦ known_kind p s l w (Mark t) S h fork (K fork old)
    ]
noted_cases p s l w (Took t) x S h K fork i = known_kind p s l w (Took t) S h fork (K fork i)
noted_cases p s l w (Ran t k) x S h K fork i = known_kind p s l w (Ran t k) S h fork (K fork i)
noted_cases p s l w (Chunk t) x S h K fork i = known_kind p s l w (Chunk t) S h fork (K fork i)
noted_cases p s l w (Begin t) x S h K fork i = known_kind p s l w (Begin t) S h fork (K fork i)
noted_cases p s l w (EndOf t a g n) x S h K fork i = known_kind p s l w (EndOf t a g n) S h fork (K fork i)
noted_cases p s l w (PutOff t) x S h K fork i = known_kind p s l w (PutOff t) S h fork (K fork i)
noted_cases p s l w (More t n) x S h K fork i = known_kind p s l w (More t n) S h fork (K fork i)
noted_cases p s l w (Sweep t g) x S h K fork i = known_kind p s l w (Sweep t g) S h fork (K fork i)
noted_cases p s l w Fuel x S h K fork i = known_kind p s l w Fuel S h fork (K fork i)

-- the record of a worker after an entry
pace_cases : (pace : List WorkerPace) (w v : ℕ) (y : WorkerPace) → (pace_of (slice_set pace w y) v ≡ y) ⊎ (pace_of (slice_set pace w y) v ≡ pace_of pace v)
pace_cases [] w v y = inr refl
pace_cases (x ∷ pace) zero zero y = inl refl
pace_cases (x ∷ pace) zero (suc v) y = inr refl
pace_cases (x ∷ pace) (suc w) zero y = inr refl
pace_cases (x ∷ pace) (suc w) (suc v) y = pace_cases pace w v y

entry_known : (p : ProgramText) (s : SettingsValue) (l : Ledger) (pace : List WorkerPace) (e : EntryValue) → SoundLedger l → is_none (kind_refusal p s l e.worker e.kind) ≡ true → AllKnown l pace → AllKnown (after p s l e) (pace_after (after p s l e) pace e)
entry_known p s l pace e S h A v fork i =
    let y = pace_noted (after p s l e) (pace_of pace e.worker) e.kind in
    elim (pace_cases pace e.worker v y) [
      | inl q ↦ noted_cases p s l e.worker e.kind (pace_of pace e.worker) S h (A e.worker) fork (subst (λ (x : WorkerPace). In x.marks fork) q i)
      | inr q ↦ known_kind p s l e.worker e.kind S h fork (A v fork (subst (λ (x : WorkerPace). In x.marks fork) q i))
    ]

journal_known : (p : ProgramText) (s : SettingsValue) (journal : List EntryValue) (l : Ledger) (pace : List WorkerPace) → SoundLedger l → AllKnown l pace → is_legal_from p s l journal ≡ true → AllKnown (after_all p s l journal) (pace_after_all p s l pace journal)
journal_known p s [] l pace S A h = A
journal_known p s (e ∷ es) l pace S A h =
    let both = and_parts (is_none (refusal p s l e)) (is_legal_from p s (after p s l e) es) h in
    journal_known p s es (after p s l e) (pace_after (after p s l e) pace e) (entry_sound p s l e S both.0) (entry_known p s l pace e S (entry_tells p s l e both.0).2 A) both.1

opening_known : (p : ProgramText) (s : SettingsValue) → AllKnown (opening p s) (pace_opening s)
opening_known p s v fork i = absurd (none s.workers v i)
  where
    none : (n v : ℕ) → In (pace_of (replicate n idle) v).marks fork → ⊥
    none zero v i = i
    none (suc n) zero i = i
    none (suc n) (suc v) i = none n v i

-- WHAT IS OWED

-- what follows from waiting on a fork
pub waits_tells : (o : Option Task) (joins : ℕ) → waits_since o joins ≡ true → (x : Task) × (o ≡ Some x) × (waits x.status ≡ true) × (x.joins ≡ joins)
waits_tells None joins h = absurd (false≢true h)
waits_tells (Some x) joins h = let q = and_parts (waits x.status) (x.joins == joins) h in (x, refl, q.0, eqb-true x.joins joins q.1)

none_some : (o : Option ℕ) → is_none o ≡ true → is_some o ≡ false
none_some None h = refl
none_some (Some n) h = absurd (false≢true h)

if_false : (v : Bool) (c : _) (rest : Option _) → v ≡ false → refused_if v c rest ≡ rest
if_false v c rest e = ap (λ b. refused_if b c rest) e

unless_true : (v : Bool) (c : _) (rest : Option _) → v ≡ true → refused_unless v c rest ≡ rest
unless_true v c rest e = ap (λ b. refused_unless b c rest) e

module _ (p : ProgramText) (s : SettingsValue) (l : Ledger) (w : ℕ) where
  is_waiting_on : (fork : Strand) → waits_on l fork ≡ true → is_waiting (slice_get l.machine.tasks fork.task) ≡ true
  is_waiting_on fork h = let q = waits_tells (slice_get l.machine.tasks fork.task) fork.joins h in ap is_waiting q.1 ∙ q.2

  mark_given : (fork : Strand) → is_to_mark s l fork ≡ true → CanBeGiven p s l w (OwesMark fork.task)
  mark_given fork h =
      let a = and_parts (waits_on l fork) _ h in
      let b = and_parts (is_unmarked (heap_of l fork.task)) (nat_le s.inner (words_in l.machine (heap_of l fork.task))) a.1 in
      let c = and_parts (is_none (heap_of l fork.task).marked) (not (heap_of l fork.task).swept) b.0 in
      unless_true (is_waiting (slice_get l.machine.tasks fork.task)) _ _ (is_waiting_on fork a.0)
      ∙ (if_false (heap_of l fork.task).swept _ _ (not-true (heap_of l fork.task).swept c.1)
      ∙ (if_false (is_some (heap_of l fork.task).marked) _ _ (none_some (heap_of l fork.task).marked c.0)
      ∙ unless_true (nat_le s.inner (words_in l.machine (heap_of l fork.task))) _ None b.1))

  marking : (fork : Strand) → Known l fork → is_under_way l fork ≡ true → (is_waiting (slice_get l.machine.tasks fork.task) ≡ true) × ((heap_of l fork.task).swept ≡ false) × (is_some (heap_of l fork.task).marked ≡ true)
  marking fork K h =
      let a = and_parts (waits_on l fork) (not (heap_of l fork.task).swept) h in
      let q = waits_tells (slice_get l.machine.tasks fork.task) fork.joins a.0 in
      let unswept = not-true (heap_of l fork.task).swept a.1 in (
        is_waiting_on fork a.0,
        unswept,
        elim K [
          | inl past ↦
              let same : past.0 ≡ q.0 = same_Some past.0 q.0 (sym past.1 ∙ q.1) in
              let j = ap (λ (x : Task). x.joins) same in
              let lt : fork.joins < past.0.joins = past.2 in
              let e : q.0.joins ≡ fork.joins = q.3 in
              absurd (omega arith)
          | inr g ↦ elim (g.4) [ inl m ↦ m | inr sw ↦ absurd (both_ways (heap_of l fork.task).swept unswept sw) ]
        ],
      )

  on_marking_none : (fork : Strand) (rest : _) → Known l fork → is_under_way l fork ≡ true → on_marking l fork.task rest ≡ rest
  on_marking_none fork rest K h =
      let m = marking fork K h in
      unless_true (is_waiting (slice_get l.machine.tasks fork.task)) _ _ m.0
      ∙ (if_false (heap_of l fork.task).swept _ _ m.1 ∙ unless_true (is_some (heap_of l fork.task).marked) _ rest m.2)

  more_given : (fork : Strand) → Known l fork → is_under_way l fork ≡ true → (v : Bool) → (left_in (heap_of l fork.task) == 0) ≡ v → CanBeGiven p s l w (cond v (OwesSweep fork.task) (OwesMore fork.task))
  more_given fork K h true e =
      on_marking_none fork _ K h
      ∙ (unless_true (left_in (heap_of l fork.task) == 0) _ _ e
      ∙ unless_true (sweep_number l.machine (heap_of l fork.task) == sweep_number l.machine (heap_of l fork.task)) _ None (eq-eqb (sweep_number l.machine (heap_of l fork.task)) (sweep_number l.machine (heap_of l fork.task)) refl))
  more_given fork K h false e = on_marking_none fork _ K h ∙ if_false (left_in (heap_of l fork.task) == 0) _ None e

  marks_given : (forks : List Strand) → ((fork : Strand) → In forks fork → Known l fork) → CanBeGiven p s l w (owed_to_marks l forks)
  marks_given [] A = tt
  marks_given (fork ∷ forks) A = marks_given_by_cases (is_under_way l fork) refl (marks_given forks (λ f i. A f (inr i)))
    where
      marks_given_by_cases : (v : Bool) → is_under_way l fork ≡ v → CanBeGiven p s l w (owed_to_marks l forks) → CanBeGiven p s l w (cond v (more_of l fork.task) (owed_to_marks l forks))
      marks_given_by_cases true e rest = more_given fork (A fork (inl refl)) e (left_in (heap_of l fork.task) == 0) refl
      marks_given_by_cases false e rest = rest

  owed_given : (marks : List Strand) (previous : Previous) → ((fork : Strand) → In marks fork → Known l fork) → CanBeGiven p s l w (owed_after s l marks previous)
  owed_given marks Other A = tt
  owed_given marks RanBefore A = marks_given marks A
  owed_given marks (Forked fork) A = owed_given_by_cases (is_to_mark s l fork) refl
    where
      owed_given_by_cases : (v : Bool) → is_to_mark s l fork ≡ v → CanBeGiven p s l w (cond v (OwesMark fork.task) (owed_to_marks l marks))
      owed_given_by_cases true e = mark_given fork e
      owed_given_by_cases false e = marks_given marks A

pub owed_can_be_given : OwedCanBeGiven
owed_can_be_given p s journal w legal =
    let l : Ledger = ledger_of p s journal in
    let A = journal_known p s journal (opening p s) (pace_opening s) (opening_sound p s) (opening_known p s) legal in
    let x = pace_of (pace_at_end p s journal) w in
    owed_given p s l w x.marks x.previous (A w)
