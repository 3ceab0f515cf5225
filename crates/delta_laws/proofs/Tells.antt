-- The deltas of a legal journal tell where its tasks stand.
use Rattle.delta_laws.proofs.Common.{◌≡◌, ◌<◌, ◌≤◌, ℕ, zero, suc, ◌+◌, ◌-◌, ◌==◌, ◌⊎◌, Bool, true, false, cond, Option, Some, None, List, [], ◌∷◌, ◌++◌, length, slice_get, slice_set, nat_lt, inl, inr, refl, ap, sym, subst, ◌∙◌, is_some, is_none, arith, eq-eqb, append_assoc, cases_eq, cases_lt, cond-true, cond-false, false≢true, both_ways, and_parts, length-set, In, got_same, got_other, got_past, got_within, none_of, option_is, ProgramText, TaskStatus, Running, Waiting, Ended, Joined, Task, MachineState, onward, next_name, step, start, can_step, asked, runs, is_running, is_left, parent_of, child, strand, strand_of, edge, joined_task, resumed, join_of, ended_task, result_of, ended_by, waiting, grown_at, grown_left, grown_right, grown_past, grown_other, three_top, three_left, three_right, three_other, below, parr, wp, step_cases, runs_is, Kind, Took, Ran, Chunk, Begin, End as EndOf, PutOff, Mark, More, Sweep, Fuel, EntryValue, SettingsValue, field_limit, Heap, Ledger, Pool, with_allocation, heap_of, with_heap, with_heap_at, in_use, allocated_by, allocated_in, settled, moved_on, moved_to, stepped_to, task_step, task_steps, on_asked, is_small_size, refusal, kind_refusal, after_kind, after, is_ready, is_out, with_chunk, chunk_units, opening, after_all, ledger_of, is_legal, is_legal_from, stepped_machine, SoundLedger, moves_each, SoundAt, StepLeaves, step_leaves, step_keeps, steps_keep, heap_of_task, running_at, can_tells, worker_at, allots, with_heap_any, MannedLedger, moved_to_end, allocated_end, placed_worker, worker_of, step_manned, chunk_worker_by, tasks_are_out_once, held_is, wait_run, none_unless, out_tells, entry_tells, legal_sound, collecting_is, journals_can_be_cut, Standing, TaskNow, roots, standing_for, line_for, now_of, now_out, now_free, joined_now, moved_by, moved, deltas_from, delta, machine_after, machine_moves, told, told_by, stands_as, stands, DeltasGiveTasks}
use Rattle.std.proofs.lemmas.Bool.{ne_eqb}
use Rattle.hh_model.specs.declared.data.End.{End}

-- THE STATUS OF A TASK

abbrev now_at : ProgramText → List Task → List Heap → ℕ → Option TaskNow
now_at p tasks heaps u = stands_as p u (is_some (worker_at (slice_get heaps u))) (slice_get tasks u)

-- who holds it counts of a task that runs alone
at_rest : (p : ProgramText) (u : ℕ) (a b : Bool) (o : Option Task) → is_running o ≡ false → stands_as p u a o ≡ stands_as p u b o
at_rest p u a b None h = refl
at_rest p u a b (Some x) h = ap (λ (s : Standing). Some (record { task = u; standing = s; line = line_for p x.top x.status; holds = roots x })) (at_rest_by_cases x.status h)
  where
    at_rest_by_cases : (s : TaskStatus) → runs s ≡ false → standing_for a s ≡ standing_for b s
    at_rest_by_cases Running h = absurd (false≢true (sym h))
    at_rest_by_cases Waiting h = refl
    at_rest_by_cases (Ended k n) h = refl
    at_rest_by_cases Joined h = refl

same_now : (p : ProgramText) (tasks tasks' : List Task) (heaps heaps' : List Heap) (u : ℕ) → slice_get tasks' u ≡ slice_get tasks u
    → (is_running (slice_get tasks u) ≡ true → worker_at (slice_get heaps' u) ≡ worker_at (slice_get heaps u)) → now_at p tasks' heaps' u ≡ now_at p tasks heaps u
same_now p tasks tasks' heaps heaps' u same held = ap (stands_as p u (is_some (worker_at (slice_get heaps' u)))) same ∙ same_now_by_cases (is_running (slice_get tasks u)) refl
  where
    same_now_by_cases : (b : Bool) → is_running (slice_get tasks u) ≡ b → stands_as p u (is_some (worker_at (slice_get heaps' u))) (slice_get tasks u) ≡ now_at p tasks heaps u
    same_now_by_cases true e = ap (λ w. stands_as p u (is_some w) (slice_get tasks u)) (held e)
    same_now_by_cases false e = at_rest p u (is_some (worker_at (slice_get heaps' u))) (is_some (worker_at (slice_get heaps u))) (slice_get tasks u) e

-- WHAT IS TOLD

told_more : (u : ℕ) (x : Option TaskNow) (a b : List TaskNow) → told u x (a ++ b) ≡ told u (told u x a) b
told_more u x [] b = refl
told_more u x (y ∷ ys) b = told_more u (cond (y.task == u) (Some y) x) ys b

tell_it : (p : ProgramText) (v u : ℕ) (out : Bool) (o : Option Task) (x : Option TaskNow) → v ≡ u → is_some o ≡ true → told u x (now_of p v out o) ≡ stands_as p v out o
tell_it p v u out None x e some = absurd (false≢true some)
tell_it p v u out (Some z) x e some = cond-true (v == u) (stands_as p v out (Some z)) x (eq-eqb v u e)

tell_other : (p : ProgramText) (v u : ℕ) (out : Bool) (o : Option Task) (x : Option TaskNow) → (v ≡ u → ⊥) → told u x (now_of p v out o) ≡ x
tell_other p v u out None x ne = refl
tell_other p v u out (Some z) x ne = cond-false (v == u) (stands_as p v out (Some z)) x (ne_eqb v u ne)

-- these tasks, with no worker
abbrev free : ProgramText → MachineState → ℕ → List ℕ → List TaskNow
free p m v [] = now_free p m v
free p m v (w ∷ ws) = now_free p m v ++ free p m w ws

module _ (p : ProgramText) (m : MachineState) (u : ℕ) (goal : Option TaskNow) where
  -- there is such a task, and it stands so
  abbrev Right : ℕ → Type 0
  Right v = v ≡ u → (is_some (slice_get m.tasks v) ≡ true) × (stands_as p v false (slice_get m.tasks v) ≡ goal)

  one_told : (x : Option TaskNow) (v : ℕ) (ws : List ℕ) → Right v → (x ≡ goal) ⊎ In (v ∷ ws) u → (told u x (now_free p m v) ≡ goal) ⊎ In ws u
  one_told x v ws right from = elim (cases_eq v u) [
    | inl e ↦ inl (tell_it p v u false (slice_get m.tasks v) x e (right e).0 ∙ (right e).1)
    | inr ne ↦ elim from [
      | inl e ↦ inl (tell_other p v u false (slice_get m.tasks v) x ne ∙ e)
      | inr i ↦ elim i [ inl e ↦ absurd (ne e) | inr j ↦ inr j ]
    ]
  ]

  all_told : (x : Option TaskNow) (v : ℕ) (ws : List ℕ) → ((w : ℕ) → In (v ∷ ws) w → Right w) → (x ≡ goal) ⊎ In (v ∷ ws) u → told u x (free p m v ws) ≡ goal
  all_told x v [] right from = elim (one_told x v [] (right v (inl refl)) from) [ inl e ↦ e | inr i ↦ absurd i ]
  all_told x v (w ∷ ws) right from =
      told_more u x (now_free p m v) (free p m w ws)
      ∙ all_told (told u x (now_free p m v)) w ws (λ z i. right z (inr i)) (one_told x v (w ∷ ws) (right v (inl refl)) from)

-- THE STEPS OF AN ENTRY

module _ (p : ProgramText) (l : Ledger) (t : ℕ) where
  abbrev made : ℕ
  made = length l.machine.tasks

  -- what these steps moved is told
  abbrev Told : MachineState → List Heap → Type 0
  Told m heaps = (u : ℕ) (x : Option TaskNow) → x ≡ now_at p l.machine.tasks l.heaps u → told u x (moved p m made t (slice_get m.tasks t)) ≡ now_at p m.tasks heaps u

  -- as long as the task runs, a worker holds it, and the others stand where they stood
  record Runs (m : MachineState) (heaps : List Heap) : Type 0 where
    pub many : length m.tasks ≡ made
    pub held : is_some (worker_at (slice_get heaps t)) ≡ true
    pub others : (u : ℕ) → (u ≡ t → ⊥) → now_at p m.tasks heaps u ≡ now_at p l.machine.tasks l.heaps u

  abbrev Tells : MachineState → List Heap → Type 0
  Tells m heaps = Told m heaps × (is_running (slice_get m.tasks t) ≡ true → Runs m heaps)

  -- it runs on
  runs_on : (m : MachineState) (heaps : List Heap) (y : Task) → slice_get m.tasks t ≡ Some y → y.status ≡ Running → Runs m heaps → Tells m heaps
  runs_on m heaps y is run R = (told_on, λ r. R)
    where
      out_told : (u : ℕ) (x : Option TaskNow) → x ≡ now_at p l.machine.tasks l.heaps u → told u x (now_out p m t) ≡ now_at p m.tasks heaps u
      out_told u x e = elim (cases_eq t u) [
        | inl q ↦ tell_it p t u true (slice_get m.tasks t) x q (ap is_some is) ∙ (ap (λ b. stands_as p t b (slice_get m.tasks t)) (sym R.held) ∙ ap (now_at p m.tasks heaps) q)
        | inr ne ↦ tell_other p t u true (slice_get m.tasks t) x ne ∙ (e ∙ sym (R.others u (λ q. ne (sym q))))
      ]

      told_on : Told m heaps
      told_on u x e = ap (λ (o : Option Task). told u x (moved p m made t o)) is ∙ (ap (λ s. told u x (moved_by p m made t y.parent s)) run ∙ out_told u x e)

  -- it doesn't: these tasks are told of, which are there with no worker, and the others stand where they stood
  settles : (m : MachineState) (heaps : List Heap) (v : ℕ) (ws : List ℕ) → moved p m made t (slice_get m.tasks t) ≡ free p m v ws → is_running (slice_get m.tasks t) ≡ false
      → ((w : ℕ) → In (v ∷ ws) w → (is_some (slice_get m.tasks w) ≡ true) × ((is_running (slice_get m.tasks w) ≡ false) ⊎ (worker_at (slice_get heaps w) ≡ None)))
      → ((u : ℕ) → (now_at p m.tasks heaps u ≡ now_at p l.machine.tasks l.heaps u) ⊎ In (v ∷ ws) u) → Tells m heaps
  settles m heaps v ws is stops each rest =
      ((λ u x e. ap (told u x) is ∙ all_told p m u (now_at p m.tasks heaps u) x v ws (λ w i q. ((each w i).0, right w (each w i).1 ∙ ap (now_at p m.tasks heaps) q)) (from u x e)), (λ r. absurd (both_ways (is_running (slice_get m.tasks t)) stops r)))
    where
      right : (w : ℕ) → (is_running (slice_get m.tasks w) ≡ false) ⊎ (worker_at (slice_get heaps w) ≡ None) → stands_as p w false (slice_get m.tasks w) ≡ now_at p m.tasks heaps w
      right w (inl e) = at_rest p w false (is_some (worker_at (slice_get heaps w))) (slice_get m.tasks w) e
      right w (inr e) = ap (λ o. stands_as p w (is_some o) (slice_get m.tasks w)) (sym e)

      from : (u : ℕ) (x : Option TaskNow) → x ≡ now_at p l.machine.tasks l.heaps u → (x ≡ now_at p m.tasks heaps u) ⊎ In (v ∷ ws) u
      from u x e = elim (rest u) [ inl q ↦ inl (e ∙ sym q) | inr i ↦ inr i ]

  -- one more step
  module _ (k : Ledger) (S : SoundAt t k) (I : MannedLedger k) (on : k.end ≡ None) (can : can_step k.machine t ≡ true) (R : Runs k.machine k.heaps) where
    abbrev m : MachineState
    m = k.machine

    abbrev b : Ledger
    b = allocated_in p k t

    abbrev heaps_by : MachineState → List Heap
    heaps_by m' = (stepped_to b t m').heaps

    -- who holds the others is as it was, and nobody holds a task more
    abbrev Keeps : List Heap → Type 0
    Keeps heaps = (u : ℕ) → (u ≡ t → ⊥) → is_running (slice_get m.tasks u) ≡ true → worker_at (slice_get heaps u) ≡ worker_at (slice_get k.heaps u)

    abbrev Frees : List Heap → Type 0
    Frees heaps = (u : ℕ) → (u ≡ t → ⊥) → is_running (slice_get m.tasks u) ≡ false → worker_at (slice_get heaps u) ≡ None

    abbrev Owes : MachineState → Type 0
    Owes m' = Keeps (heaps_by m') → Frees (heaps_by m') → Tells m' (heaps_by m')

    heap : (h : Heap) × (slice_get k.heaps t ≡ Some h)
    heap = heap_of_task k t S.0 (can_tells m t can).1

    going : m.end ≡ None
    going = (can_tells m t can).0

    held_b : (o : Option ℕ) → worker_at (slice_get (allocated_by k t o).heaps t) ≡ worker_at (slice_get k.heaps t)
    held_b None = refl
    held_b (Some w) =
        ap (λ (q : Ledger). worker_at (slice_get q.heaps t)) (ap (with_heap_at k t (λ g. with_allocation g (next_name t m.store) w)) heap.1)
        ∙ (ap worker_at (got_same k.heaps t heap.0 (with_allocation heap.0 (next_name t m.store) w) heap.1) ∙ (placed_worker heap.0 (next_name t m.store) w ∙ sym (ap worker_at heap.1)))

    none_free : (u : ℕ) → is_running (slice_get m.tasks u) ≡ false → worker_at (slice_get k.heaps u) ≡ None
    none_free u stops = none_free_by_cases (worker_at (slice_get k.heaps u)) refl
      where
        none_free_by_cases : (o : Option ℕ) → worker_at (slice_get k.heaps u) ≡ o → worker_at (slice_get k.heaps u) ≡ None
        none_free_by_cases None e = e
        none_free_by_cases (Some w) e = absurd (both_ways (is_running (slice_get m.tasks u)) stops (I.runs on u w e))

    other_now : (m' : MachineState) → Keeps (heaps_by m') → (u : ℕ) → (u ≡ t → ⊥) → slice_get m'.tasks u ≡ slice_get m.tasks u → now_at p m'.tasks (heaps_by m') u ≡ now_at p l.machine.tasks l.heaps u
    other_now m' keeps u ne same = same_now p m.tasks m'.tasks k.heaps (heaps_by m') u same (keeps u ne) ∙ R.others u ne

    -- the task runs on
    stays : (m' : MachineState) (y : Task) → heaps_by m' ≡ b.heaps → slice_get m'.tasks t ≡ Some y → y.status ≡ Running → length m'.tasks ≡ length m.tasks
        → ((u : ℕ) → (u ≡ t → ⊥) → slice_get m'.tasks u ≡ slice_get m.tasks u) → Owes m'
    stays m' y same is run many others keeps frees = runs_on m' (heaps_by m') y is run (record {
      many = many ∙ R.many;
      held = ap (λ (hs : List Heap). is_some (worker_at (slice_get hs t))) same ∙ (ap is_some (held_b (asked p m t)) ∙ R.held);
      others = λ u ne. other_now m' keeps u ne (others u ne);
    })

    heaps_on : (m' : MachineState) (y : Task) → m'.end ≡ None → slice_get m'.tasks t ≡ Some y → y.status ≡ Running → heaps_by m' ≡ b.heaps
    heaps_on m' y end is run =
        let j : Ledger = record b { machine = m'; steps = b.steps + 1 } in
        ap (λ o. (settled j t o).heaps) end ∙ (ap (λ (o : Option Task). (moved_to j t o).heaps) is ∙ ap (λ s. (moved_on j t y.parent s).heaps) run)

    -- it has ended before its sibling, or was the first one
    ends : (x : Task) (e : Option End) → slice_get m.tasks t ≡ Some x → Owes (record m { tasks = slice_set m.tasks t (ended_task x (result_of x.top)); end = e })
    ends x e is keeps frees =
        let m' : MachineState = record m { tasks = slice_set m.tasks t (ended_task x (result_of x.top)); end = e } in
        let at : slice_get m'.tasks t ≡ Some (ended_task x (result_of x.top)) = got_same m.tasks t x (ended_task x (result_of x.top)) is in
        settles m' (heaps_by m') t [] (ap (moved p m' made t) at) (ap is_running at)
        (λ w i. elim i [ inl q ↦ (ap (λ v. is_some (slice_get m'.tasks v)) (sym q) ∙ ap is_some at, inl (ap (λ v. is_running (slice_get m'.tasks v)) (sym q) ∙ ap is_running at)) | inr j ↦ absurd j ])
        (λ u. elim (cases_eq t u) [ inl q ↦ inr (inl q) | inr ne ↦ inl (other_now m' keeps u (λ q. ne (sym q)) (got_other m.tasks t u (ended_task x (result_of x.top)) (λ q. ne (sym q)))) ])

    -- it has forked
    forks : (m' : MachineState) (x y c d : Task) → slice_get m.tasks t ≡ Some x → m'.tasks ≡ slice_set m.tasks t y ++ c ∷ d ∷ [] → y.status ≡ Waiting → Owes m'
    forks m' x y c d is grows waits_y keeps frees =
        let n : ℕ = length m.tasks in
        let slot : (u : ℕ) → slice_get m'.tasks u ≡ slice_get (slice_set m.tasks t y ++ c ∷ d ∷ []) u = λ u. ap (λ (ts : List Task). slice_get ts u) grows in
        let at : slice_get m'.tasks t ≡ Some y = slot t ∙ grown_at m.tasks t x y c d is in
        let at_c : slice_get m'.tasks n ≡ Some c = slot n ∙ grown_left m.tasks t x y c d is in
        let at_d : slice_get m'.tasks (n + 1) ≡ Some d = slot (n + 1) ∙ grown_right m.tasks t x y c d is in
        let lt : t < n = got_within m.tasks t x is in
        let gone : (u : ℕ) → n ≤ u → is_running (slice_get m.tasks u) ≡ false = λ u le. ap is_running (got_past m.tasks u le) in
        let stops : is_running (slice_get m'.tasks t) ≡ false = ap is_running at ∙ ap runs waits_y in
        settles m' (heaps_by m') t (n ∷ (n + 1) ∷ [])
        (ap (moved p m' made t) at ∙ (ap (moved_by p m' made t y.parent) waits_y ∙ ap (λ j. now_free p m' t ++ now_free p m' j ++ now_free p m' (j + 1)) (sym R.many) ∙ append_assoc (now_free p m' t) (now_free p m' n) (now_free p m' (n + 1)))) stops
        (λ w i. elim i [
          | inl q ↦ (ap (λ v. is_some (slice_get m'.tasks v)) (sym q) ∙ ap is_some at, inl (ap (λ v. is_running (slice_get m'.tasks v)) (sym q) ∙ stops))
          | inr j ↦ elim j [
            | inl q ↦ (ap (λ v. is_some (slice_get m'.tasks v)) (sym q) ∙ ap is_some at_c, inr (frees w (λ e. omega arith) (gone w (omega arith))))
            | inr j' ↦ elim j' [
              | inl q ↦ (ap (λ v. is_some (slice_get m'.tasks v)) (sym q) ∙ ap is_some at_d, inr (frees w (λ e. omega arith) (gone w (omega arith))))
              | inr none ↦ absurd none
            ]
          ]
        ])
        (λ u. elim (cases_eq t u) [
          | inl q ↦ inr (inl q)
          | inr ne ↦ elim (cases_lt u n) [
            | inl before ↦ inl (other_now m' keeps u (λ q. ne (sym q)) (slot u ∙ grown_other m.tasks t x y c d is u before (λ q. ne (sym q))))
            | inr past ↦ elim (cases_eq n u) [
              | inl q ↦ inr (inr (inl q))
              | inr ne' ↦ elim (cases_eq (n + 1) u) [
                | inl q ↦ inr (inr (inr (inl q)))
                | inr ne2 ↦ inl (other_now m' keeps u (λ q. ne (sym q)) (slot u ∙ (grown_past m.tasks t x y c d is u (omega arith) ∙ sym (got_past m.tasks u (omega arith)))))
              ]
            ]
          ]
        ])

    -- it and its sibling, c and c + 1, have joined their parent
    joins : (m' : MachineState) (parent c : ℕ) (yl yr yp : Task) → slice_get m'.tasks parent ≡ Some yp → slice_get m'.tasks c ≡ Some yl → slice_get m'.tasks (c + 1) ≡ Some yr
        → ((u : ℕ) → (u ≡ c → ⊥) → (u ≡ c + 1 → ⊥) → (u ≡ parent → ⊥) → slice_get m'.tasks u ≡ slice_get m.tasks u)
        → yl.status ≡ Joined → yr.status ≡ Joined → yl.parent ≡ Some parent → yr.parent ≡ Some parent → parent < c → is_running (slice_get m.tasks parent) ≡ false
        → ((t ≡ c) × (is_left t ≡ true)) ⊎ ((t ≡ c + 1) × (is_left t ≡ false)) → Owes m'
    joins m' parent c yl yr yp at_p at_l at_r other jl jr pl pr under waits_p side keeps frees =
        let by_left : (y : Task) → slice_get m'.tasks t ≡ Some y → y.status ≡ Joined → y.parent ≡ Some parent → (left : ℕ) → cond (is_left t) t (t - 1) ≡ left → left ≡ c → moved p m' made t (slice_get m'.tasks t) ≡ free p m' parent (c ∷ (c + 1) ∷ []) =
        λ y at j pp left e q. ap (moved p m' made t) at ∙ (ap (moved_by p m' made t y.parent) j ∙ (ap (joined_now p m' (cond (is_left t) t (t - 1))) pp ∙ (ap (λ v. joined_now p m' v (Some parent)) (e ∙ q) ∙ append_assoc (now_free p m' parent) (now_free p m' c) (now_free p m' (c + 1))))) in
        let stops_l : is_running (slice_get m'.tasks c) ≡ false = ap is_running at_l ∙ ap runs jl in
        let stops_r : is_running (slice_get m'.tasks (c + 1)) ≡ false = ap is_running at_r ∙ ap runs jr in
        settles m' (heaps_by m') parent (c ∷ (c + 1) ∷ [])
        (elim side [
          | inl q ↦ by_left yl (ap (slice_get m'.tasks) q.0 ∙ at_l) jl pl t (cond-true (is_left t) t (t - 1) q.1) q.0
          | inr q ↦ by_left yr (ap (slice_get m'.tasks) q.0 ∙ at_r) jr pr (t - 1) (cond-false (is_left t) t (t - 1) q.1) (let e : t ≡ c + 1 = q.0 in let d : t - 1 ≡ c = omega arith in d)
        ])
        (elim side [ inl q ↦ ap (λ v. is_running (slice_get m'.tasks v)) q.0 ∙ stops_l | inr q ↦ ap (λ v. is_running (slice_get m'.tasks v)) q.0 ∙ stops_r ])
        (λ w i. elim i [
          | inl q ↦ (ap (λ v. is_some (slice_get m'.tasks v)) (sym q) ∙ ap is_some at_p, inr (frees w (not_t w (sym q)) (ap (λ v. is_running (slice_get m.tasks v)) (sym q) ∙ waits_p)))
          | inr j ↦ elim j [
            | inl q ↦ (ap (λ v. is_some (slice_get m'.tasks v)) (sym q) ∙ ap is_some at_l, inl (ap (λ v. is_running (slice_get m'.tasks v)) (sym q) ∙ stops_l))
            | inr j' ↦ elim j' [
              | inl q ↦ (ap (λ v. is_some (slice_get m'.tasks v)) (sym q) ∙ ap is_some at_r, inl (ap (λ v. is_running (slice_get m'.tasks v)) (sym q) ∙ stops_r))
              | inr none ↦ absurd none
            ]
          ]
        ])
        (λ u. elim (cases_eq parent u) [
          | inl q ↦ inr (inl q)
          | inr np ↦ elim (cases_eq c u) [
            | inl q ↦ inr (inr (inl q))
            | inr nl ↦ elim (cases_eq (c + 1) u) [
              | inl q ↦ inr (inr (inr (inl q)))
              | inr nr ↦ inl (other_now m' keeps u (elim side [ inl q ↦ λ e. nl (sym (e ∙ q.0)) | inr q ↦ λ e. nr (sym (e ∙ q.0)) ]) (other u (λ q. nl (sym q)) (λ q. nr (sym q)) (λ q. np (sym q))))
            ]
          ]
        ])
      where
        not_t : (w : ℕ) → w ≡ parent → w ≡ t → ⊥
        not_t w e q = elim side [
          | inl s ↦ (let i : t ≡ c = s.0 in let f : ⊥ = omega arith in f)
          | inr s ↦ (let i : t ≡ c + 1 = s.0 in let f : ⊥ = omega arith in f)
        ]

    leaves : StepLeaves t k b (stepped_to b t (step p m t))
    leaves = step_leaves p k t S can

    keeps_now : Keeps (heaps_by (step p m t))
    keeps_now u ne run = ap worker_at (leaves.4 u ne (inl run))

    -- whoever holds a task after the step held it before
    abbrev Was : ℕ → Heap → Type 0
    Was u h = worker_at (slice_get b.heaps u) ≡ None → h.worker ≡ None

    was : (u : ℕ) (h : Heap) → slice_get (heaps_by (step p m t)) u ≡ Some h → Was u h
    was =
        moves_each Was t m.tasks b.heaps (heaps_by (step p m t)) leaves.2 (λ u h e q. sym (ap worker_at e) ∙ q) (λ h q none. refl) (λ u none. refl) (λ ns h q none. refl)
        (λ u h x y v w is wait idle q qx qy none. sym (ap worker_at is) ∙ none) (λ u h idle q none. refl)

    frees_now : Frees (heaps_by (step p m t))
    frees_now u ne stops = frees_now_by_cases (slice_get (heaps_by (step p m t)) u) refl
      where
        none_b : worker_at (slice_get b.heaps u) ≡ None
        none_b = ap worker_at ((allots k t heap.0 heap.1 (asked p m t)).others u ne) ∙ none_free u stops

        frees_now_by_cases : (o : Option Heap) → slice_get (heaps_by (step p m t)) u ≡ o → worker_at o ≡ None
        frees_now_by_cases None e = refl
        frees_now_by_cases (Some h) e = was u h e none_b

    -- the step in any case
    tells_by : Owes (step p m t)
    tells_by =
        step_cases p m t S.0.fork_join Owes
        (stays m now.0 (heaps_on m now.0 going now.1 now.2) now.1 now.2 refl (λ u ne. refl))
        (λ x e is run why. stays (ended_by m e) x refl is (runs_is x.status run) refl (λ u ne. refl))
        (λ x y store outs is run ep ed es ej names fields alters grows.
        let m' : MachineState = record m { tasks = slice_set m.tasks t y; store = store; outputs = outs } in
        let at : slice_get m'.tasks t ≡ Some y = got_same m.tasks t x y is in
        let go : y.status ≡ Running = es ∙ runs_is x.status run in
        stays m' y (heaps_on m' y going at go) at go (length-set m.tasks t y) (λ u ne. got_other m.tasks t u y ne))
        (λ x parent e is run pp which result. ends x e is)
        (λ x g h is run next top. forks (record m {
          tasks = slice_set m.tasks t (record x { status = Waiting; top = onward x.top }) ++ child t (x.depth + 1) g x.top ∷ child t (x.depth + 1) h x.top ∷ [];
          store = m.store ++ [] ∷ [] ∷ [];
          edges = m.edges ++ edge (strand_of t x) (strand (length m.tasks) 0) ∷ edge (strand_of t x) (strand (length m.tasks + 1) 0) ∷ [];
        }) x (record x { status = Waiting; top = onward x.top }) (child t (x.depth + 1) g x.top) (child t (x.depth + 1) h x.top) is refl refl)
        (λ parent c xp xl xr rl rr ip il ir pl left dl dr wl wr nl nr side.
        let T = S.0.fork_join.tree in
        let under = below m.tasks m.edges c parent xl xr xp rl rr il ir ip pl left dl dr wl wr T in
        let yl : Task = joined_task xl in
        let yr : Task = joined_task xr in
        let yp : Task = resumed xp rl rr in
        joins (join_of m parent xp c xl xr rl rr) parent c yl yr yp
        (three_top m.tasks c parent xl xr xp yl yr yp il ir ip under) (three_left m.tasks c parent xl xr xp yl yr yp il ir ip under) (three_right m.tasks c parent xl xr xp yl yr yp il ir ip under)
        (three_other m.tasks c parent xl xr xp yl yr yp il ir ip under) refl refl pl
        (sym (ap parent_of ir) ∙ parr m.tasks m.edges c parent xl xr xp rl rr il ir ip pl left dl dr wl wr T) under
        (stopped parent (wp m.tasks m.edges c parent xl xr xp rl rr il ir ip pl left dl dr wl wr T))
        (elim side [ inl q ↦ inl (q.0, q.1) | inr q ↦ inr (q.0, q.1) ]))
      where
        now : (x : Task) × (slice_get m.tasks t ≡ Some x) × (x.status ≡ Running)
        now = let x = running_at m.tasks t (slice_get m.tasks t) refl (can_tells m t can).1 in (x.0, x.1, runs_is (x.0).status x.2)

        stopped : (u : ℕ) → waiting m.tasks u ≡ true → is_running (slice_get m.tasks u) ≡ false
        stopped u w = stopped_by_cases (is_running (slice_get m.tasks u)) refl
          where
            stopped_by_cases : (v : Bool) → is_running (slice_get m.tasks u) ≡ v → v ≡ false
            stopped_by_cases false e = refl
            stopped_by_cases true e = absurd (wait_run m u w e)

    step_tells : Tells (step p m t) (heaps_by (step p m t))
    step_tells = tells_by keeps_now frees_now

    -- the run goes on as long as the machine does
    step_on : (stepped_to b t (step p m t)).machine.end ≡ None → (stepped_to b t (step p m t)).end ≡ None
    step_on e =
        let j : Ledger = record b { machine = step p m t; steps = b.steps + 1 } in
        let over : (step p m t).end ≡ None = sym (ap (λ (q : MachineState). q.end) (stepped_machine b t (step p m t))) ∙ e in
        ap (λ o. (settled j t o).end) over ∙ (moved_to_end j t (slice_get (step p m t).tasks t) ∙ (allocated_end k t (asked p m t) ∙ on))

  -- what the steps keep
  abbrev Kept : Ledger → Type 0
  Kept k = Tells k.machine k.heaps × MannedLedger k × (k.machine.end ≡ None → k.end ≡ None)

  step_kept : (k : Ledger) → SoundAt t k → Kept k → Kept (task_step p k t)
  step_kept k S K = step_keeps Kept p k t (λ can.
      let tells = can_tells k.machine t can in
      let on : k.end ≡ None = K.2 tells.0 in
      let R = K.0.1 tells.1 in
      let next : Ledger = stepped_to (allocated_in p k t) t (step p k.machine t) in (
        subst (λ (q : MachineState). Tells q next.heaps) (sym (stepped_machine (allocated_in p k t) t (step p k.machine t))) (step_tells k S K.1 on can R),
        step_manned p k t S K.1 can,
        step_on k S K.1 on can R,
      )) K

  -- the first step is that of a task that a worker holds
  opens : MannedLedger l → l.end ≡ None → is_running (slice_get l.machine.tasks t) ≡ true → is_some (worker_at (slice_get l.heaps t)) ≡ true → Kept l
  opens I on run held = (runs_on l.machine l.heaps x.0 x.1 (runs_is (x.0).status x.2) (record { many = refl; held = held; others = λ u ne. refl }), I, λ e. on)
    where
      x : (x : Task) × (slice_get l.machine.tasks t ≡ Some x) × (is_running (Some x) ≡ true)
      x = running_at l.machine.tasks t (slice_get l.machine.tasks t) refl run

  steps_told : (n : ℕ) → SoundAt t l → MannedLedger l → l.end ≡ None → is_running (slice_get l.machine.tasks t) ≡ true → is_some (worker_at (slice_get l.heaps t)) ≡ true
      → Told (task_steps p l t n).machine (task_steps p l t n).heaps
  steps_told n S I on run held = (steps_keep Kept p t step_kept n l S (opens I on run held)).0.0

-- ENTRIES

module _ (p : ProgramText) (s : SettingsValue) (l : Ledger) (S : SoundLedger l) (I : MannedLedger l) (on : l.end ≡ None) where
  abbrev TellsEntry : ℕ → Kind → Type 0
  TellsEntry w kind = (u : ℕ) (x : Option TaskNow) → x ≡ now_at p l.machine.tasks l.heaps u → told u x (delta p l.machine kind).tasks ≡ now_at p (after_kind p s l w kind).machine.tasks (after_kind p s l w kind).heaps u

  -- who holds the heap's task stays
  unmoved : (t : ℕ) (f : Heap → Heap) → ((h : Heap) → (f h).worker ≡ h.worker) → (u : ℕ) → now_at p l.machine.tasks l.heaps u ≡ now_at p (with_heap l t f).machine.tasks (with_heap l t f).heaps u
  unmoved t f same u = with_heap_any (λ k. now_at p l.machine.tasks l.heaps u ≡ now_at p k.machine.tasks k.heaps u) l t f refl (λ h e. elim (cases_eq u t) [
    | inl q ↦ ap (λ w. stands_as p u (is_some w) (slice_get l.machine.tasks u)) (
        ap (λ v. worker_at (slice_get l.heaps v)) q ∙ (ap worker_at e ∙ (sym (same h) ∙ (sym (ap worker_at (got_same l.heaps t h (f h) e)) ∙ ap (λ v. worker_at (slice_get (slice_set l.heaps t (f h)) v)) (sym q)))))
    | inr ne ↦ ap (λ (o : Option Heap). stands_as p u (is_some (worker_at o)) (slice_get l.machine.tasks u)) (sym (got_other l.heaps t u (f h) ne))
  ])

  took_told : (w t : ℕ) → is_running (slice_get l.machine.tasks t) ≡ true → TellsEntry w (Took t)
  took_told w t run u x e =
      let h = heap_of_task l t S run in
      let h' : Heap = record (h.0) { worker = Some w } in
      let heaps' : List Heap = slice_set l.heaps t h' in
      let y = running_at l.machine.tasks t (slice_get l.machine.tasks t) refl run in
      let there : now_at p l.machine.tasks heaps' u ≡ now_at p (after_kind p s l w (Took t)).machine.tasks (after_kind p s l w (Took t)).heaps u =
      ap (λ (k : Ledger). now_at p k.machine.tasks k.heaps u) (sym (ap (with_heap_at l t (λ g. record g { worker = Some w })) h.1)) in
      elim (cases_eq t u) [
        | inl q ↦
            tell_it p t u true (slice_get l.machine.tasks t) x q (ap is_some y.1)
            ∙ (ap (λ o. stands_as p t (is_some (worker_at o)) (slice_get l.machine.tasks t)) (sym (got_same l.heaps t h.0 h' h.1)) ∙ (ap (now_at p l.machine.tasks heaps') q ∙ there))
        | inr ne ↦
            tell_other p t u true (slice_get l.machine.tasks t) x ne
            ∙ (e ∙ (ap (λ (o : Option Heap). stands_as p u (is_some (worker_at o)) (slice_get l.machine.tasks u)) (sym (got_other l.heaps t u h' (λ q. ne (sym q)))) ∙ there))
      ]

  chunk_told : (t : ℕ) (next : Option ℕ) (full : Bool) (u : ℕ)
      → let k : Ledger = cond full (record l { end = Some (Pool (in_use l)) }) (with_heap l t (with_chunk next)) in now_at p l.machine.tasks l.heaps u ≡ now_at p k.machine.tasks k.heaps u
  chunk_told t next true u = refl
  chunk_told t next false u = unmoved t (with_chunk next) (λ h. chunk_worker_by h (chunk_units next) (on_asked next is_small_size)) u

  out_held : (w t : ℕ) → is_out l w t ≡ true → is_some (worker_at (slice_get l.heaps t)) ≡ true
  out_held w t h = ap is_some (sym (worker_of l t)) ∙ ap is_some (held_is (heap_of l t).worker w (and_parts (is_running (slice_get l.machine.tasks t)) (option_is (heap_of l t).worker w) h).1)

  entry_told : (w : ℕ) (kind : Kind) → is_none (kind_refusal p s l w kind) ≡ true → TellsEntry w kind
  entry_told w (Took t) h = took_told w t (and_parts (is_running (slice_get l.machine.tasks t)) (is_none (heap_of l t).worker) (none_unless (is_ready l t) _ _ h).0).0
  entry_told w (Ran t k) h =
      let a = out_tells l w t _ h in
      λ u x e. ap (λ (q : MachineState). told u x (moved p q (length l.machine.tasks) t (slice_get q.tasks t))) (machine_moves p s l w (Ran t k))
      ∙ steps_told p l t k (S, a.1) I on a.0 (out_held w t (none_unless (is_out l w t) _ _ h).0) u x e
  entry_told w (Chunk t) h = λ u x e. e ∙ chunk_told t (asked p l.machine t) (nat_lt s.chunks (in_use l + chunk_units (asked p l.machine t))) u
  entry_told w (Begin t) h = λ u x e. e ∙ unmoved t _ (λ g. refl) u
  entry_told w (EndOf t a g n) h = λ u x e. e ∙ unmoved t _ (λ g. refl) u
  entry_told w (PutOff t) h = λ u x e. e ∙ unmoved t _ (λ g. refl) u
  entry_told w (Mark t) h = λ u x e. e ∙ unmoved t _ (λ g. refl) u
  entry_told w (More t n) h = λ u x e. e ∙ unmoved t _ (λ g. refl) u
  entry_told w (Sweep t g) h = λ u x e. e ∙ unmoved t _ (λ g. refl) u
  entry_told w Fuel h = λ u x e. e

-- JOURNALS

manned : (p : ProgramText) (s : SettingsValue) (journal : List EntryValue) → is_legal p s journal ≡ true → MannedLedger (ledger_of p s journal)
manned p s journal legal =
    let l : Ledger = ledger_of p s journal in
    let T = tasks_are_out_once p s journal legal in
    record {
      runs = λ on u w q. T.runs on u w (worker_of l u ∙ q);
      one = λ u v w q r. T.one u v w (worker_of l u ∙ q) (worker_of l v ∙ r);
      out = λ u c. sym (ap is_some (worker_of l u)) ∙ T.collecting u (collecting_is (slice_get l.heaps u) ∙ c);
    }

module _ (p : ProgramText) (s : SettingsValue) (u : ℕ) where
  rest_told : (rest before : List EntryValue) (x : Option TaskNow) → is_legal p s (before ++ rest) ≡ true → let l : Ledger = ledger_of p s before in x ≡ now_at p l.machine.tasks l.heaps u
      → let k : Ledger = after_all p s l rest in told_by u x (deltas_from p l.machine rest) ≡ now_at p k.machine.tasks k.heaps u
  rest_told [] before x legal e = e
  rest_told (e ∷ es) before x legal is =
      let l : Ledger = ledger_of p s before in
      let cut = (journals_can_be_cut p s before (e ∷ es)).legal.0 legal in
      let one = (and_parts (is_none (refusal p s l e)) (is_legal_from p s (after p s l e) es) cut.1).0 in
      let tells = entry_tells p s l e one in
      let now = entry_told p s l (legal_sound p s before cut.0) (manned p s before cut.0) (none_of l.end tells.0) e.worker e.kind tells.2 u x is in
      let next : ledger_of p s (before ++ e ∷ []) ≡ after p s l e = (journals_can_be_cut p s before (e ∷ [])).accounts in
      let legal' : is_legal p s ((before ++ e ∷ []) ++ es) ≡ true = ap (is_legal p s) (append_assoc before (e ∷ []) es) ∙ legal in
      let k : Ledger = ledger_of p s (before ++ e ∷ []) in
      let moved' : machine_after p l.machine e.kind ≡ k.machine = machine_moves p s l e.worker e.kind ∙ ap (λ (q : Ledger). q.machine) (sym next) in
      ap (λ (q : MachineState). told_by u (told u x (delta p l.machine e.kind).tasks) (deltas_from p q es)) moved'
      ∙ (rest_told es (before ++ e ∷ []) (told u x (delta p l.machine e.kind).tasks) legal' (now ∙ ap (λ (q : Ledger). now_at p q.machine.tasks q.heaps u) (sym next))
      ∙ ap (λ (q : Ledger). now_at p (after_all p s q es).machine.tasks (after_all p s q es).heaps u) next)

first_told : (p : ProgramText) (s : SettingsValue) (u : ℕ) → told u None (now_free p (start p (field_limit s.version)) 0) ≡ now_at p (opening p s).machine.tasks (opening p s).heaps u
first_told p s zero = refl
first_told p s (suc u) = tell_other p 0 (suc u) false (slice_get (start p (field_limit s.version)).tasks 0) None (λ e. omega arith)

pub deltas_give_tasks : DeltasGiveTasks
deltas_give_tasks p s journal u legal =
    let l : Ledger = ledger_of p s journal in
    rest_told p s u journal [] (told u None (now_free p (start p (field_limit s.version)) 0)) legal (first_told p s u)
    ∙ ap (λ w. stands_as p u (is_some w) (slice_get l.machine.tasks u)) (sym (worker_of l u))
