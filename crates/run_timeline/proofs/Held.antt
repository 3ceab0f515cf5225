-- The words that are held follow from entry to entry.
use Rattle.run_timeline.proofs.Common.{◌≡◌, ℕ, zero, suc, ◌+◌, ◌-◌, ◌<◌, ◌≤◌, true, false, inl, inr, Option, Some, None, List, [], ◌∷◌, ◌++◌, length, slice_get, replicate, refl, ap, ap₂, sym, subst, ◌∙◌, arith, is_some, cases_Bool, cases_lt, got_within, got_some, ProgramText, Name, MachineState, Counted, row_of, IsStored, asked, can_step, run_from, start, step, next_name, counted_step, runs_are_counted, IsForkJoinState, run_is_fork_join_state, start_is_fork_join_state, step_is_fork_join_state, can_made, step_idle, Kind, Took, Ran, Chunk, Begin, End, PutOff, Mark, More, Sweep, Fuel, EntryValue, SettingsValue, field_limit, Ledger, collected, held_in, swept_heap, words_at, after, after_kind, refusal, after_all, is_legal, ledger_of, opening, tasks_in, tasks_of, freed_by_end, freed_by_sweep, tally, store_words, after_cut, legal_then, Grown, grown, entries_move_machine, machine_is_run, sum_flat, words_are_accounted, cleared_words, lost_is, WordsFollowEntries, objects_by, objects_made, words_by, words_held, words_made}

-- OBJECTS OF ONE TASK

module _ (p : ProgramText) (t : ℕ) where
  abbrev name_at : ℕ → Name
  name_at c = record { task = t; count = c }

  stored_below : (m : MachineState) (c : ℕ) → c < objects_made m t → IsStored m (name_at c)
  stored_below m c lt = got_some (row_of (slice_get m.store t)) c lt

  stored_within : (m : MachineState) (c : ℕ) → IsStored m (name_at c) → c < objects_made m t
  stored_within m c s = got_within (row_of (slice_get m.store t)) c s.0 s.1

  same_made : (m m' : MachineState) (first n : ℕ) → first + n ≤ objects_made m t → ((c : Name) → IsStored m c → words_at m' c ≡ words_at m c) → words_made m' t first n ≡ words_made m t first n
  same_made m m' first zero le same = refl
  same_made m m' first (suc n) le same =
      ap₂ (λ a b. a + b) (same_made m m' first n (omega arith) same) (same (name_at (first + n)) (stored_below m (first + n) (omega arith)))

  -- the store has the words of an older one and those of the objects that the task has made since
  pub record HasMore (base first : ℕ) (m : MachineState) : Type 0 where
    pub within : first ≤ objects_made m t
    pub sum : store_words m.store ≡ base + words_made m t first (objects_made m t - first)

  -- ONE STEP

  module _ (m : MachineState) (G : Grown p m t) where
    abbrev m' : MachineState
    m' = step p m t

    at_least : objects_made m t ≤ objects_made m' t
    at_least = elim (cases_lt (objects_made m' t) (objects_made m t)) [
      | inl fewer ↦ absurd (let lt : objects_made m' t < objects_made m' t = stored_within m' (objects_made m' t) (G.up (name_at (objects_made m' t)) (stored_below m (objects_made m' t) fewer)) in omega arith)
      | inr le ↦ le
    ]

    none_more : asked p m t ≡ None → objects_made m' t ≡ objects_made m t
    none_more e = elim (cases_lt (objects_made m t) (objects_made m' t)) [
      | inr le ↦ omega (arith, at_least)
      | inl more ↦ elim (G.down (name_at (objects_made m t)) (stored_below m' (objects_made m t) more)) [
        | inl old ↦ absurd (let lt : objects_made m t < objects_made m t = stored_within m (objects_made m t) old in omega arith)
        | inr new ↦ absurd (let h : false ≡ true = sym (ap is_some e) ∙ new.1 in cc)
      ]
    ]

    one_more : (w : ℕ) → asked p m t ≡ Some w → objects_made m' t ≡ objects_made m t + 1
    one_more w e =
        let lower : objects_made m t < objects_made m' t = stored_within m' (objects_made m t) (G.new w e).0 in
        elim (cases_lt (objects_made m t + 1) (objects_made m' t)) [
          | inr le ↦ omega arith
          | inl more ↦ elim (G.down (name_at (objects_made m t + 1)) (stored_below m' (objects_made m t + 1) more)) [
            | inl old ↦ absurd (let lt : objects_made m t + 1 < objects_made m t = stored_within m (objects_made m t + 1) old in omega arith)
            | inr new ↦ absurd (let h : objects_made m t + 1 ≡ objects_made m t = ap (λ (n : Name). n.count) new.0 in omega arith)
          ]
        ]

    module _ (base first : ℕ) (H : HasMore base first m) where
      abbrev n : ℕ
      n = objects_made m t - first

      same_words : words_made m' t first n ≡ words_made m t first n
      same_words = let le : first ≤ objects_made m t = H.within in same_made m m' first n (omega arith) G.words

      by_asked : (o : Option ℕ) → asked p m t ≡ o → HasMore base first m'
      by_asked None e =
          let k = none_more e in
          let le : first ≤ objects_made m t = H.within in
          let words = ap (λ i. words_made m' t first (i - first)) k in
          let s : store_words m.store ≡ base + words_made m t first n = H.sum in
          record { within = omega arith; sum = let g = G.none e in omega (arith, same_words, words, s, g) }
      by_asked (Some w) e =
          let k = one_more w e in
          let le : first ≤ objects_made m t = H.within in
          let next : objects_made m' t - first ≡ suc n = omega arith in
          let last : first + n ≡ objects_made m t = omega arith in
          let words : words_made m' t first (objects_made m' t - first) ≡ words_made m' t first n + words_at m' (name_at (first + n)) = ap (words_made m' t first) next in
          let object : words_at m' (name_at (first + n)) ≡ words_at m' (next_name t m.store) = ap (λ c. words_at m' (name_at c)) last in
          let s : store_words m.store ≡ base + words_made m t first n = H.sum in
          record { within = omega arith; sum = let g = G.some w e in omega (arith, same_words, words, object, s, g) }

      pub step_more : HasMore base first m'
      step_more = by_asked (asked p m t) refl

  -- STEPS

  step_has : (base first j : ℕ) (m : MachineState) → IsForkJoinState m → Counted j m.tasks m.store → HasMore base first m → HasMore base first (step p m t)
  step_has base first j m K C H = elim (cases_Bool (can_step m t)) [
    | inl can ↦
        let rows : length m.store ≡ length m.tasks = C.rows in
        let lt : t < length m.tasks = can_made m t can in
        step_more m (grown p m t K can (omega arith)) base first H
    | inr not ↦ subst (HasMore base first) (sym (step_idle p m t not)) H
  ]

  pub steps_have : (base first k j : ℕ) (m : MachineState) → IsForkJoinState m → Counted j m.tasks m.store → HasMore base first m → HasMore base first (run_from p m (replicate k t))
  steps_have base first zero j m K C H = H
  steps_have base first (suc k) j m K C H =
      steps_have base first k (suc j) (step p m t) (step_is_fork_join_state p m t K) (counted_step p m t K j C) (step_has base first j m K C H)

  at_first : (m : MachineState) → HasMore (store_words m.store) (objects_made m t) m
  at_first m =
      let z : objects_made m t - objects_made m t ≡ 0 = omega arith in
      let e : words_made m t (objects_made m t) (objects_made m t - objects_made m t) ≡ 0 = ap (words_made m t (objects_made m t)) z in
      record { within = omega arith; sum = omega (arith, e) }

-- ONE ENTRY

-- what an entry frees is what its heap has lost
lost_by : (p : ProgramText) (s : SettingsValue) (l : Ledger) (w : ℕ) (kind : Kind) → cleared_words l kind - cleared_words (after_kind p s l w kind) kind ≡ freed_by_end l kind + freed_by_sweep l kind
lost_by p s l w (Took t) = refl
lost_by p s l w (Ran t k) = refl
lost_by p s l w (Chunk t) = refl
lost_by p s l w (Begin t) = refl
lost_by p s l w (End t taken given left) = let e = lost_is l t (collected l.machine) in omega (arith, e)
lost_by p s l w (PutOff t) = refl
lost_by p s l w (Mark t) = refl
lost_by p s l w (More t n) = refl
lost_by p s l w (Sweep t given) = let e = lost_is l t swept_heap in omega (arith, e)
lost_by p s l w Fuel = refl

-- what is counted of a journal with an entry more
tally_last : (p : ProgramText) (s : SettingsValue) (count : Ledger → Kind → ℕ) (journal : List EntryValue) (l : Ledger) (e : EntryValue)
    → tally p s count l (journal ++ e ∷ []) ≡ tally p s count l journal + count (after_all p s l journal) e.kind
tally_last p s count [] l e = omega arith
tally_last p s count (x ∷ journal) l e = let r = tally_last p s count journal (after p s l x) e in omega (arith, r)

module _ (p : ProgramText) (s : SettingsValue) (journal : List EntryValue) (legal : is_legal p s journal ≡ true) (e : EntryValue) (none : refusal p s (ledger_of p s journal) e ≡ None) where
  abbrev l : Ledger
  l = ledger_of p s journal

  abbrev l' : Ledger
  l' = after p s l e

  fork_join : IsForkJoinState l.machine
  fork_join = subst IsForkJoinState (sym (machine_is_run p s journal)) (run_is_fork_join_state p (start p (field_limit s.version)) (tasks_of journal) (start_is_fork_join_state p (field_limit s.version)))

  counted : Counted (length (tasks_of journal)) l.machine.tasks l.machine.store
  counted = subst (λ (m : MachineState). Counted (length (tasks_of journal)) m.tasks m.store) (sym (machine_is_run p s journal)) (runs_are_counted p (field_limit s.version) (tasks_of journal))

  next : l' ≡ ledger_of p s (journal ++ e ∷ [])
  next = sym (after_cut p s journal (e ∷ []) (opening p s))

  abbrev Accounted : ℕ → Ledger → Type 0
  Accounted freed k = freed + words_held k ≡ store_words k.machine.store

  accounted : (j : List EntryValue) → is_legal p s j ≡ true → Accounted (tally p s freed_by_end (opening p s) j + tally p s freed_by_sweep (opening p s) j) (ledger_of p s j)
  accounted j h =
      let a = words_are_accounted p s j h in
      let flat = sum_flat (words_at (ledger_of p s j).machine) held_in (ledger_of p s j).heaps in
      omega (arith, a, flat)

  -- the words of the store with those of the entry's steps
  abbrev Grew : Kind → MachineState → Type 0
  Grew kind m = store_words m.store ≡ store_words l.machine.store + words_by kind (objects_by kind l.machine) m

  still : (m : MachineState) → m ≡ l.machine → store_words m.store ≡ store_words l.machine.store + 0
  still m q = let w = ap (λ (x : MachineState). store_words x.store) q in omega (arith, w)

  grew_by : (kind : Kind) (m : MachineState) → m ≡ run_from p l.machine (tasks_in kind) → Grew kind m
  grew_by (Took t) m q = still m q
  grew_by (Ran t k) m q =
      subst (Grew (Ran t k)) (sym q) (steps_have p t (store_words l.machine.store) (objects_made l.machine t) k (length (tasks_of journal)) l.machine fork_join counted (at_first p t l.machine)).sum
  grew_by (Chunk t) m q = still m q
  grew_by (Begin t) m q = still m q
  grew_by (End t taken given left) m q = still m q
  grew_by (PutOff t) m q = still m q
  grew_by (Mark t) m q = still m q
  grew_by (More t n) m q = still m q
  grew_by (Sweep t given) m q = still m q
  grew_by Fuel m q = still m q

  pub follows : words_held l' ≡ words_held l + words_by e.kind (objects_by e.kind l.machine) l'.machine - (cleared_words l e.kind - cleared_words l' e.kind)
  follows =
      let ends = tally_last p s freed_by_end journal (opening p s) e in
      let sweeps = tally_last p s freed_by_sweep journal (opening p s) e in
      let before : Accounted (tally p s freed_by_end (opening p s) journal + tally p s freed_by_sweep (opening p s) journal) l = accounted journal legal in
      let behind : Accounted (tally p s freed_by_end (opening p s) (journal ++ e ∷ []) + tally p s freed_by_sweep (opening p s) (journal ++ e ∷ [])) l' =
      subst (Accounted (tally p s freed_by_end (opening p s) (journal ++ e ∷ []) + tally p s freed_by_sweep (opening p s) (journal ++ e ∷ []))) (sym next) (accounted (journal ++ e ∷ []) (legal_then p s journal e legal none)) in
      let made : Grew e.kind l'.machine = grew_by e.kind l'.machine (entries_move_machine p s l e) in
      let gone = lost_by p s l e.worker e.kind in
      omega (arith, ends, sweeps, before, behind, made, gone)

pub words_follow_entries : WordsFollowEntries
words_follow_entries p s l e L none =
    subst (λ (k : Ledger). refusal p s k e ≡ None → words_held (after p s k e) ≡ words_held k + words_by e.kind (objects_by e.kind k.machine) (after p s k e).machine - (cleared_words k e.kind - cleared_words (after p s k e) e.kind)) (sym L.2)
    (λ h. follows p s L.0 L.1 e h) none
