-- What the heaps of tasks that don't run hold, counted by their belongings.
use Rattle.heap_reading.proofs.Common.{◌≡◌, ℕ, zero, suc, ◌+◌, ◌-◌, ◌*◌, ◌^◌, ◌<◌, ◌≤◌, ◌==◌, ◌++◌, arith, Bool, true, false, cond, not, Option, Some, None, List, [], ◌∷◌, length, length-append, map, min, option_map, slice_get, inl, inr, refl, ap, ap₂, sym, subst, ◌∙◌, flat_map, cases_eq, append-nil, append_assoc, sum_by-append, contains_from_in, Name, MachineState, TaskStatus, Running, Waiting, Ended, Joined, is_running, runs, Done, Trapped, Entangled, Heap, Ledger, RunEnd, Machine as MachineEnd, Pool, heap_of, held, held_in, in_use, let_go, or_fresh, small_in, words_at, words_sum, held_not_running, held_not_running_from, tasks_are_out_once, steps_are_bounded, heaps_fit, use_is_bounded, names_are_held_once, journals_are_counted, stored_most, kept_least, held_words, object_count, ChunkValue, Located, saturating_words, TaskNode, Rests, rested, with_off, rested_view, ChunksHaveNames, large_chunks, chunk_names, small_chunks, object_name, objects_of_chunks, by_end, handed, state_by, ParkedTask, chunk_of, chunks_of, SharedValue, accounts, belongings_in, rest_at, value_of, IsSharedValue, words_are, belongings_chunks, objects_counted, goes_by, node_now, tree_long, is_state_running, held_unless_running}
use Rattle.core_invariant.specs.below.run_ledger.{Fuel}
use Rattle.heap_reading.proofs.IdleTasks.{journal_idle}

-- RUNNING TASKS, by the tree
by_status : (s : TaskStatus) (o : Option ℕ) → is_state_running (Some (state_by s o)) ≡ runs s
by_status Running None = refl
by_status Running (Some w) = refl
by_status Waiting o = refl
by_status (Ended n r) o = refl
by_status Joined o = refl

-- HOW MANY names small chunks and large ones have
small_many : List ChunkValue → ℕ
small_many ks = length (flat_map (λ ns. ns) (map chunk_names (small_chunks (chunks_of ks))))

large_many : List ChunkValue → ℕ
large_many ks = length (map object_name (objects_of_chunks (large_chunks (chunks_of ks))))

length_names : (os : List Located) → length (map object_name os) ≡ length os
length_names [] = refl
length_names (o ∷ os) = ap suc (length_names os)

chunks_many : (ks : List ChunkValue) → small_many ks + large_many ks ≡ length (objects_of_chunks (chunks_of ks))
unfolding small_many large_many
chunks_many [] = refl
chunks_many (k ∷ ks) = chunks_many_by_cases (k.size == 1024) (chunks_many ks) ∙ sym (length-append (chunk_of k).objects (objects_of_chunks (chunks_of ks)))
  where
    chunks_many_by_cases : (b : Bool) → small_many ks + large_many ks ≡ length (objects_of_chunks (chunks_of ks))
        → length (flat_map (λ ns. ns) (map chunk_names (cond (not (not b)) (chunk_of k ∷ small_chunks (chunks_of ks)) (small_chunks (chunks_of ks)))))
        + length (map object_name (objects_of_chunks (cond (not b) (chunk_of k ∷ large_chunks (chunks_of ks)) (large_chunks (chunks_of ks))))) ≡ length (chunk_of k).objects + length (objects_of_chunks (chunks_of ks))
    chunks_many_by_cases true go =
        let own = length_names (chunk_of k).objects in
        let both = length-append (chunk_names (chunk_of k)) (flat_map (λ ns. ns) (map chunk_names (small_chunks (chunks_of ks)))) in
        omega (arith, own, both, go)
    chunks_many_by_cases false go =
        let own = length_names ((chunk_of k).objects ++ objects_of_chunks (large_chunks (chunks_of ks))) in
        let rest = length_names (objects_of_chunks (large_chunks (chunks_of ks))) in
        let both = length-append (chunk_of k).objects (objects_of_chunks (large_chunks (chunks_of ks))) in
        omega (arith, own, rest, both, go)

held_many : (a : Heap) (ks : List ChunkValue) → ChunksHaveNames (chunks_of ks) a → length (held_in a) ≡ length (objects_of_chunks (chunks_of ks))
unfolding small_many large_many
held_many a ks N =
    length-append (small_in a) a.large
    ∙ (ap₂ (λ x y. length (flat_map (λ ns. ns) x) + length y) (sym N.small) (sym N.large)
    ∙ chunks_many ks)

-- OF A TASK that doesn't run
pub handed_held : (l : Ledger) (t : ℕ) → held_in (heap_of (handed l) t) ≡ held_in (heap_of l t)
handed_held l t = handed_held_by_cases l.end
  where
    root : held_in (heap_of (rested l 0) t) ≡ held_in (heap_of l t)
    root = elim (cases_eq t 0) [
      | inl e ↦ ap (λ z. held_in (heap_of (rested l 0) z)) e ∙ (rested_view held_in (λ z. refl) l 0 ∙ ap (λ z. held_in (heap_of l z)) (sym e))
      | inr ne ↦ ap (λ o. held_in (or_fresh o)) (with_off l 0 t let_go ne)
    ]

    handed_held_by_cases : (o : Option RunEnd) → held_in (heap_of (by_end l o) t) ≡ held_in (heap_of l t)
    handed_held_by_cases None = refl
    handed_held_by_cases (Some (Fuel n)) = refl
    handed_held_by_cases (Some (Pool n)) = refl
    handed_held_by_cases (Some (MachineEnd Done)) = root
    handed_held_by_cases (Some (MachineEnd (Trapped kind u line))) = refl
    handed_held_by_cases (Some (MachineEnd (Entangled u v))) = refl

module _ (w : SharedValue) (I : IsSharedValue w) (t : ℕ) where
  abbrev l : Ledger
  l = accounts w

  pub runs_is : is_state_running (option_map (λ m. m.state) (slice_get w.tree t)) ≡ is_running (slice_get l.machine.tasks t)
  runs_is = node_now w I (λ n x. is_state_running (option_map (λ (m : TaskNode). m.state) n) ≡ is_running x) refl (λ x worker. by_status x.status worker) t

  pub none_of : is_running (slice_get l.machine.tasks t) ≡ true → held_unless_running l t ≡ []
  none_of e = ap (λ b. cond b [] (held_in (heap_of l t))) e

  module _ (idle : is_running (slice_get l.machine.tasks t) ≡ false) where
    rests : Rests (handed l) t
    rests = journal_idle w.program w.settings w.journal.items I.form I.legal t idle

    kept_is : held_unless_running l t ≡ held_in (heap_of l t)
    kept_is = ap (λ b. cond b [] (held_in (heap_of l t))) idle

    names_are : (ks : List ChunkValue) → ((value_of w).belongings t).chunks ≡ chunks_of ks → ChunksHaveNames (chunks_of ks) (heap_of (handed l) t)
    names_are ks here = subst (λ cs. ChunksHaveNames cs (heap_of (handed l) t)) here (I.stands.belongings.belongings t rests).names

    many_by : (ks : List ChunkValue) → ((value_of w).belongings t).chunks ≡ chunks_of ks → length (objects_of_chunks (chunks_of ks)) ≡ length (held_unless_running l t)
    many_by ks here = sym (held_many (heap_of (handed l) t) ks (names_are ks here)) ∙ (ap length (handed_held l t) ∙ ap length (sym kept_is))

    here_by : (o : Option ParkedTask) → rest_at w.rests t ≡ o → ((value_of w).belongings t).chunks ≡ (belongings_in o).chunks
    here_by o e = ap (λ x. (belongings_in x).chunks) e

    -- its objects and their words
    pub objects_are : (r : ParkedTask) → rest_at w.rests t ≡ Some r → object_count r.heap.chunks ≡ length (held_unless_running l t)
    objects_are r there = objects_counted r.heap.chunks (I.heaps t r there).tidy ∙ many_by r.heap.chunks (here_by (Some r) there ∙ belongings_chunks r)

    pub words_kept : (r : ParkedTask) → rest_at w.rests t ≡ Some r → held_words r.heap.chunks ≡ words_sum l.machine (held_unless_running l t)
    words_kept r there =
        sym (words_are (value_of w) (handed l) t r.heap.chunks I.stands.belongings rests (here_by (Some r) there ∙ belongings_chunks r) (I.heaps t r there).tidy)
        ∙ ap₂ (λ (m : MachineState) ns. words_sum m ns) (goes_by l l.end).machine (handed_held l t ∙ sym kept_is)

    -- without a slot it holds nothing
    pub nothing_kept : rest_at w.rests t ≡ None → held_unless_running l t ≡ []
    nothing_kept none = empty (held_unless_running l t) (many_by [] (here_by None none))
      where
        empty : (ns : List Name) → 0 ≡ length ns → ns ≡ []
        empty [] e = refl
        empty (n ∷ ns) e = absurd cc

-- TASK BY TASK
abbrev pub kept_before : Ledger → ℕ → List Name
kept_before l zero = []
kept_before l (suc t) = kept_before l t ++ held_unless_running l t

pub kept_more : (l : Ledger) (t : ℕ) → kept_before l (t + 1) ≡ kept_before l t ++ held_unless_running l t
kept_more l t = ap (kept_before l) (let e : t + 1 ≡ suc t = omega arith in e)

-- what the heaps from t on hold
kept_on : (l : Ledger) (hs : List Heap) (t : ℕ) → ((i : ℕ) → slice_get hs i ≡ slice_get l.heaps (t + i)) → kept_before l t ++ held_not_running_from l.machine.tasks hs t ≡ kept_before l (t + length hs)
kept_on l [] t same = append-nil (kept_before l t) ∙ ap (kept_before l) (let e : t ≡ t + 0 = omega arith in e)
kept_on l (h ∷ hs) t same =
    kept_on_by_cases (is_running (slice_get l.machine.tasks t)) refl
    ∙ (ap (λ ns. ns ++ held_not_running_from l.machine.tasks hs (t + 1)) (sym (kept_more l t))
    ∙ (kept_on l hs (t + 1) (λ i. same (suc i) ∙ ap (slice_get l.heaps) (let e : t + suc i ≡ t + 1 + i = omega arith in e))
    ∙ ap (kept_before l) (let e : t + 1 + length hs ≡ t + suc (length hs) = omega arith in e)))
  where
    kept_on_here : heap_of l t ≡ h
    kept_on_here = ap or_fresh (ap (slice_get l.heaps) (let e : t ≡ t + 0 = omega arith in e) ∙ sym (same 0))

    kept_on_by_cases : (b : Bool) → is_running (slice_get l.machine.tasks t) ≡ b
        → kept_before l t ++ cond b (held_not_running_from l.machine.tasks hs (t + 1)) (held_in h ++ held_not_running_from l.machine.tasks hs (t + 1)) ≡ (kept_before l t ++ held_unless_running l t) ++ held_not_running_from l.machine.tasks hs (t + 1)
    kept_on_by_cases true e =
        ap (λ ns. ns ++ held_not_running_from l.machine.tasks hs (t + 1)) (sym (append-nil (kept_before l t)) ∙ ap (λ b. kept_before l t ++ cond b [] (held_in (heap_of l t))) (sym e))
    kept_on_by_cases false e =
        sym (append_assoc (kept_before l t) (held_in h) (held_not_running_from l.machine.tasks hs (t + 1)))
        ∙ ap (λ ns. (kept_before l t ++ ns) ++ held_not_running_from l.machine.tasks hs (t + 1)) (sym (ap (λ b. cond b [] (held_in (heap_of l t))) e ∙ ap held_in kept_on_here))

pub kept_all : (l : Ledger) → kept_before l (length l.heaps) ≡ held_not_running l
kept_all l = ap (kept_before l) (let e : length l.heaps ≡ 0 + length l.heaps = omega arith in e) ∙ sym (kept_on l l.heaps 0 (λ i. ap (slice_get l.heaps) (let e : i ≡ 0 + i = omega arith in e)))

-- IT FITS IN 64 BITS

module _ (w : SharedValue) (I : IsSharedValue w) where
  abbrev k : Ledger
  k = accounts w

  few_words : words_sum k.machine (held k) ≤ 2 ^ 26
  few_words =
      let u : in_use k ≤ w.settings.chunks = (use_is_bounded w.program w.settings w.journal.items I.legal).now in
      let c : w.settings.chunks ≤ 65536 = I.settings.chunks.1 in
      let f : words_sum k.machine (held k) ≤ 1024 * in_use k = (heaps_fit w.program w.settings w.journal.items I.legal).words in
      omega (arith, u, c, f)

  pub words_few : words_sum k.machine (held_not_running k) ≤ 2 ^ 26
  words_few =
      let a : words_sum k.machine (held_not_running k) ≤ words_sum k.machine (held k) = kept_least (words_sum k.machine) (sum_by-append (words_at k.machine)) k.machine.tasks k.heaps 0 in
      let f = few_words in
      omega (arith, a, f)

  pub objects_few : length (held_not_running k) ≤ 2 ^ 26
  objects_few =
      let H = names_are_held_once w.program w.settings w.journal.items I.legal in
      let o : length (held k) ≤ words_sum k.machine (held k) = stored_most k.machine (held k) (λ n i. H.stored n (contains_from_in (held k) n i)) in
      let a : length (held_not_running k) ≤ length (held k) = kept_least length length-append k.machine.tasks k.heaps 0 in
      let f = few_words in
      omega (arith, o, a, f)

  -- each task has a slot
  task_slots_long : length w.rests ≡ length k.machine.tasks
  task_slots_long = I.made ∙ tree_long w I

  pub task_slots_few : length w.rests < 2 ^ 32
  task_slots_few =
      let c = (journals_are_counted w.program w.settings w.journal.items).counts.made in
      let s = steps_are_bounded w.program w.settings w.journal.items I.legal in
      let d = I.settings.fuel.1 in
      let h = task_slots_long in
      omega (arith, c, s, d, h)

  pub kept_task_slots : kept_before k (length w.rests) ≡ held_not_running k
  kept_task_slots = ap (kept_before k) (task_slots_long ∙ sym (tasks_are_out_once w.program w.settings w.journal.items I.legal).as_many) ∙ kept_all k

-- one more task counted
pub counted_more : (a b c d : ℕ) → a ≡ saturating_words c → b ≡ saturating_words d → min (a + b) (2 ^ 64 - 1) ≡ saturating_words (c + d)
counted_more a b c d e f = omega (arith, e, f)

pub counted_few : (n : ℕ) → n ≤ 2 ^ 26 → saturating_words n ≡ n
counted_few n few = omega (arith, few)
