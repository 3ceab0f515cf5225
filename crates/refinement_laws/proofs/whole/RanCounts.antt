-- An entry of steps changes the tree and the counts as it changes the accounts.
use Rattle.refinement_laws.proofs.Common.{◌≡◌, ℕ, suc, ◌+◌, ◌++◌, ◌∷◌, [], true, Option, Some, None, length, slice_get, slice_set, option_map, arith, inl, inr, refl, ap, ap₂, sym, subst, ◌∙◌, both_ways, cases_eq, false≢true, same_Some, ◌↔◌, got_same, got_other, ProgramText, SettingsValue, TaskStatus, Running, Waiting, Ended, Joined, MachineState, Task, int_in, onward, is_joined, is_over, is_running, is_waiting, parents, parent_of, result_of, runs_is, runs_idle, Heap, Ledger, heap_of, in_use, or_fresh, let_go, is_private, task_steps, task_steps_steps, task_step_machine, heap_machine, same_use, Ready, TaskNode, StepsAlone, rested, ForksTask, EndsTask, LastKind, Private, Reading, Writing, Printing, Forking, Ending, Joining, Finishing, Halting, IsOfKind, GoesOn, EndsLast, Halts, Splits, RunsPrivateSteps, stepped_by, private_alone, with_off, private_kin, steps_kin, private_on, rested_worker, worker_step, steps_worker, steps_go, TreeCounts, TreeCountsStand, state_by, handed, node_then, NodesStay, NodeGoes, NodesFork, NodesJoin, TasksOutStay, LetsGo, RanCounts}
use Rattle.refinement.specs.below.heap_tree.{Out, Waiting as Waits, Ended as HasEnded, Joined as HasJoined}
use Rattle.refinement.proofs.below.ledger_step_laws.BeforeLast as before_last
use Rattle.refinement_laws.proofs.whole.Counts.{node_of, with_steps}
use Rattle.refinement_laws.proofs.whole.HandedBack.{alive_machine, handed_on, handed_halt, handed_done}
use Rattle.refinement_laws.proofs.whole.RunsOn.{ran_end}

-- the node of a task
abbrev node_at : Ledger → ℕ → Option TaskNode
node_at l u = node_of (heap_of l u).worker (slice_get l.machine.tasks u)

node_is : (l : Ledger) (u : ℕ) (y : Task) (st : TaskStatus) (w : Option ℕ) → slice_get l.machine.tasks u ≡ Some y → y.status ≡ st → (heap_of l u).worker ≡ w → node_at l u ≡ Some (record { parent = y.parent; state = state_by st w })
node_is l u y st w is s h = ap₂ node_of h is ∙ ap (λ z. Some (record { parent = y.parent; state = state_by z w })) s

node_same : (l l' : Ledger) (u : ℕ) → (heap_of l' u).worker ≡ (heap_of l u).worker → slice_get l'.machine.tasks u ≡ slice_get l.machine.tasks u → node_at l' u ≡ node_at l u
node_same l l' u h is = ap₂ node_of h is

-- a child that has joined
joined_node : (w w' : Option ℕ) (o o' : Option Task) (p : ℕ) → parent_of o ≡ Some p → is_joined o' ≡ true → parent_of o' ≡ parent_of o → node_of w' o' ≡ option_map (node_then HasJoined) (node_of w o)
joined_node w w' None o' p is h e = absurd cc
joined_node w w' (Some x) None p is h e = absurd (false≢true h)
joined_node w w' (Some x) (Some y) p is h e = ap₂ (λ q s. Some (record { parent = q; state = s })) e (joined_node_by_cases y.status h)
  where
    joined_node_by_cases : (s : TaskStatus) → is_over s ≡ true → state_by s w' ≡ HasJoined
    joined_node_by_cases Running h = absurd cc
    joined_node_by_cases Waiting h = absurd cc
    joined_node_by_cases (Ended k r) h = absurd cc
    joined_node_by_cases Joined h = refl

module _ (p : ProgramText) (s : SettingsValue) (l l' : Ledger) (t w k : ℕ) (E : RunsPrivateSteps p s l l' t w k) (c c' : TreeCounts) (T : TreeCountsStand c l) where
  abbrev m : Ledger
  m = task_steps p l t k

  abbrev S : Splits p s l l' t k
  S = E.splits

  abbrev x : Task
  x = S.task

  abbrev alone : StepsAlone l m t
  alone = before_last.alone p s l l' t w k E

  worker : (heap_of l t).worker ≡ Some w
  worker = sym (steps_worker p s t k l S.private) ∙ E.out

  kin : E.task.parent ≡ x.parent
  kin = ap parent_of (sym E.at) ∙ (sym ((steps_kin p s t k l S.private).parents t) ∙ ap parent_of S.at.task)

  -- before the last step the tree is unchanged
  mine : c.node t ≡ Some (record { parent = x.parent; state = Out })
  mine = T.node t ∙ (node_is l t E.task Running (Some w) E.at (runs_is E.task.status E.runs) worker ∙ ap (λ q. Some (record { parent = q; state = Out })) kin)

  others : (u : ℕ) → (u ≡ t → ⊥) → c.node u ≡ node_at m u
  others u ne = T.node u ∙ sym (node_same l m u (ap (λ (h : Heap). h.worker) (alone.heaps u ne)) (alone.tasks u ne))

  -- the task runs on, with its worker, and nothing else of the tree changes
  stays : (y : Task) → slice_get l'.machine.tasks t ≡ Some y → y.parent ≡ x.parent → y.status ≡ Running → (heap_of l' t).worker ≡ Some w
      → ((u : ℕ) → (u ≡ t → ⊥) → slice_get l'.machine.tasks u ≡ slice_get m.machine.tasks u) → ((u : ℕ) → (u ≡ t → ⊥) → (heap_of l' u).worker ≡ (heap_of m u).worker) → NodesStay c c' → (u : ℕ) → c'.node u ≡ node_at l' u
  stays y is par run held tasks heaps N u = elim (cases_eq u t) [
    | inl e ↦ subst (λ z. c'.node z ≡ node_at l' z) (sym e) (N t ∙ (mine ∙ (ap (λ q. Some (record { parent = q; state = Out })) (sym par) ∙ sym (node_is l' t y Running (Some w) is run held))))
    | inr ne ↦ N u ∙ (others u ne ∙ sym (node_same m l' u (heaps u ne) (tasks u ne)))
  ]

  -- a step that sets the task's frame, and keeps the accounts of heaps
  sets : (y : Task) (m' : MachineState) → l' ≡ stepped_by m m' → m'.tasks ≡ slice_set m.machine.tasks t y → y.parent ≡ x.parent → y.status ≡ x.status → NodesStay c c' → (u : ℕ) → c'.node u ≡ node_at l' u
  sets y m' e ts par st N =
      stays y (ap (λ (z : Ledger). slice_get z.machine.tasks t) e ∙ (ap (λ xs. slice_get xs t) ts ∙ got_same m.machine.tasks t x y S.at.task)) par (st ∙ S.at.runs) (ap (λ (z : Ledger). (heap_of z t).worker) e ∙ E.out)
      (λ u ne. ap (λ (z : Ledger). slice_get z.machine.tasks u) e ∙ (ap (λ xs. slice_get xs u) ts ∙ got_other m.machine.tasks t u y ne)) (λ u ne. ap (λ (z : Ledger). (heap_of z u).worker) e) N

  -- a private step
  privately : is_private p m.machine t ≡ true → NodesStay c c' → (u : ℕ) → c'.node u ≡ node_at l' u
  privately h N =
      let go = steps_go p s t k l E.task E.knows E.collects E.at E.runs E.can S.private in
      let g = private_on p m.machine t x go.3 S.at.task h in
      let A : StepsAlone m l' t = subst (λ (z : Ledger). StepsAlone m z t) (sym S.after) (private_alone p m t h (before_last.known p s l l' t w k E).sound) in
      let e : l'.machine ≡ record m.machine { tasks = slice_set m.machine.tasks t g.task; store = g.store } = ap (λ (z : Ledger). z.machine) S.after ∙ (task_step_machine p m t ∙ g.is) in
      stays g.task (ap (λ (z : MachineState). slice_get z.tasks t) e ∙ got_same m.machine.tasks t x g.task S.at.task) g.parent (g.status ∙ S.at.runs) (ap (λ (z : Ledger). (heap_of z t).worker) S.after ∙ (worker_step p s t m h ∙ E.out))
      A.tasks (λ u ne. ap (λ (h : Heap). h.worker) (A.heaps u ne)) N

  -- released, the accounts of the other tasks are unchanged
  tasks_rested : (u : ℕ) → slice_get (rested m t).machine.tasks u ≡ slice_get m.machine.tasks u
  tasks_rested u = ap (λ (z : MachineState). slice_get z.tasks u) (heap_machine m t let_go)

  heaps_rested : (u : ℕ) → (u ≡ t → ⊥) → heap_of (rested m t) u ≡ heap_of m u
  heaps_rested u ne = ap or_fresh (with_off m t u let_go ne)

  others_rested : (n : Ledger) (u : ℕ) → (u ≡ t → ⊥) → slice_get n.machine.tasks u ≡ slice_get (rested m t).machine.tasks u → heap_of n u ≡ heap_of (rested m t) u → node_at n u ≡ c.node u
  others_rested n u ne is h = node_same m n u (ap (λ (z : Heap). z.worker) (h ∙ heaps_rested u ne)) (is ∙ tasks_rested u) ∙ sym (others u ne)

  -- the task has ended
  ended : (n : Ledger) → EndsTask (rested m t) n t x → NodeGoes c c' t HasEnded → (u : ℕ) → c'.node u ≡ node_at n u
  ended n L N u = elim (cases_eq u t) [
    | inl e ↦
        subst (λ z. c'.node z ≡ node_at n z) (sym e)
        (N.node ∙ (ap (option_map (node_then HasEnded)) mine ∙ sym (node_is n t _ (Ended (result_of x.top).0 (result_of x.top).1) (heap_of n t).worker L.ended refl refl)))
    | inr ne ↦ N.others u ne ∙ sym (others_rested n u ne (L.alone.tasks u ne) (L.alone.heaps u ne))
  ]

  -- it waits for its children
  forked : (g h : ℕ) → ForksTask (rested m t) l' t (length m.machine.tasks) (length m.machine.tasks + 1) g h x → NodesFork c c' t (length m.machine.tasks) (length m.machine.tasks + 1) → (u : ℕ) → c'.node u ≡ node_at l' u
  forked g h L N u =
      let a : ℕ = length m.machine.tasks in
      elim (cases_eq u t) [
        | inl e ↦
            subst (λ z. c'.node z ≡ node_at l' z) (sym e)
            (N.parent ∙ (ap (option_map (node_then Waits)) mine ∙ sym (node_is l' t _ Waiting (heap_of l' t).worker L.waits refl refl)))
        | inr nt ↦ elim (cases_eq u a) [
          | inl e ↦ subst (λ z. c'.node z ≡ node_at l' z) (sym e) (N.left ∙ sym (node_is l' a _ Running None L.left refl (ap (λ (z : Heap). z.worker) L.heap_left)))
          | inr na ↦ elim (cases_eq u (a + 1)) [
            | inl e ↦ subst (λ z. c'.node z ≡ node_at l' z) (sym e) (N.right ∙ sym (node_is l' (a + 1) _ Running None L.right refl (ap (λ (z : Heap). z.worker) L.heap_right)))
            | inr nb ↦ N.others u nt na nb ∙ sym (others_rested l' u nt (L.tasks u nt na nb) (L.heaps u nt na nb))
          ]
        ]
      ]

  -- it and its sibling have joined their parent
  joined : (J : EndsLast m l' t x) → NodesJoin c c' J.parent J.left (J.left + 1) → (u : ℕ) → c'.node u ≡ node_at l' u
  joined J N u =
      let M : Ledger = rested m t in
      let child_then : (z : ℕ) → parents M.machine.tasks z ≡ Some J.parent → is_joined (slice_get l'.machine.tasks z) ≡ true → c'.node z ≡ option_map (node_then HasJoined) (c.node z) → c'.node z ≡ node_at l' z =
      λ z par over e. e ∙ (ap (option_map (node_then HasJoined)) (joined_at z) ∙ sym (joined_node (worker_at z) (heap_of l' z).worker (slice_get m.machine.tasks z) (slice_get l'.machine.tasks z) J.parent (ap parent_of (sym (tasks_rested z)) ∙ par) over (J.parents z))) in
      elim (cases_eq u J.parent) [
        | inl e ↦
            let ne : J.parent ≡ t → ⊥ = above in
            let rests : (heap_of l' J.parent).worker ≡ None = ap (λ (z : Heap). z.worker) J.joins.heap ∙ J.can.rests in
            let before : c.node J.parent ≡ Some (record { parent = J.above.parent; state = Waits }) =
            others J.parent ne ∙ node_is m J.parent J.above Waiting (heap_of m J.parent).worker (sym (tasks_rested J.parent) ∙ J.joins.parent) J.can.waits refl in
            subst (λ z. c'.node z ≡ node_at l' z) (sym e)
            (N.parent ∙ (ap (option_map (node_then Ready)) before ∙ sym (node_is l' J.parent _ Running None J.joins.resumed refl rests)))
        | inr np ↦ elim (cases_eq u J.left) [
          | inl e ↦ subst (λ z. c'.node z ≡ node_at l' z) (sym e) (child_then J.left J.can.left J.joins.left N.left)
          | inr nl ↦ elim (cases_eq u (J.left + 1)) [
            | inl e ↦ subst (λ z. c'.node z ≡ node_at l' z) (sym e) (child_then (J.left + 1) J.can.right J.joins.right N.right)
            | inr nr ↦
                let nt : u ≡ t → ⊥ = λ q. elim J.results [ inl r ↦ nl (q ∙ r.0) | inr r ↦ nr (q ∙ r.0) ] in
                N.others u np nl nr ∙ sym (others_rested l' u nt (J.joins.tasks u np nl nr) (J.joins.heaps u np nl nr))
          ]
        ]
      ]
    where
      -- the parent waits, and the task runs
      above : J.parent ≡ t → ⊥
      above e = both_ways (is_waiting (slice_get m.machine.tasks t)) (runs_idle x S.at.task S.at.runs)
          (ap (λ z. is_waiting (slice_get m.machine.tasks z)) (sym e) ∙ (ap is_waiting (sym (tasks_rested J.parent) ∙ J.joins.parent) ∙ ap (λ q. is_waiting (Some (record J.above { status = q }))) J.can.waits))

      -- the accounts before, of t or of another task
      worker_at : ℕ → Option ℕ
      worker_at z = (heap_of m z).worker

      joined_at : (z : ℕ) → c.node z ≡ node_of (worker_at z) (slice_get m.machine.tasks z)
      joined_at z = elim (cases_eq z t) [
        | inl e ↦ subst (λ y. c.node y ≡ node_of (worker_at y) (slice_get m.machine.tasks y)) (sym e) (mine ∙ sym (node_is m t x Running (Some w) S.at.task S.at.runs E.out))
        | inr ne ↦ others z ne
      ]

  -- TASKS OF WORKERS

  -- held by the same worker as before
  task_out_same : (n : Ledger) → ((z : ℕ) → (heap_of n z).worker ≡ (heap_of l z).worker) → TasksOutStay c c' → (u z : ℕ) → c'.task_out u ≡ Some z ↔ (heap_of n z).worker ≡ Some u
  task_out_same n same C u z = ((λ q. same z ∙ (T.task_out u z).0 (sym (C u) ∙ q)), (λ q. C u ∙ (T.task_out u z).1 (sym (same z) ∙ q)))

  -- before the last step
  workers_m : (z : ℕ) → (heap_of m z).worker ≡ (heap_of l z).worker
  workers_m z = elim (cases_eq z t) [
    | inl e ↦ subst (λ y. (heap_of m y).worker ≡ (heap_of l y).worker) (sym e) (E.out ∙ sym worker)
    | inr ne ↦ ap (λ (h : Heap). h.worker) (alone.heaps z ne)
  ]

  workers_on : (n : Ledger) → (heap_of n t).worker ≡ Some w → ((z : ℕ) → (z ≡ t → ⊥) → (heap_of n z).worker ≡ (heap_of m z).worker) → (z : ℕ) → (heap_of n z).worker ≡ (heap_of l z).worker
  workers_on n out others z = elim (cases_eq z t) [
    | inl e ↦ subst (λ y. (heap_of n y).worker ≡ (heap_of l y).worker) (sym e) (out ∙ sym worker)
    | inr ne ↦ others z ne ∙ workers_m z
  ]

  -- the worker releases its task, and each other task stays with its worker
  task_out_goes : (n : Ledger) → ((z : ℕ) → (heap_of n z).worker ≡ (heap_of (rested m t) z).worker) → LetsGo c c' w → (u z : ℕ) → c'.task_out u ≡ Some z ↔ (heap_of n z).worker ≡ Some u
  task_out_goes n same C u z = elim (cases_eq z t) [
    | inl e ↦ subst (λ y. c'.task_out u ≡ Some y ↔ (heap_of n y).worker ≡ Some u) (sym e) (elim (cases_eq u w) [
      | inl f ↦ ((λ q. none_some (sym C.task_out ∙ (ap c'.task_out (sym f) ∙ q))), (λ q. none_some (sym (rested_worker m t) ∙ (sym (same t) ∙ q))))
      | inr nu ↦ ((λ q. absurd (nu (same_Some u w (sym ((T.task_out u t).0 (sym (C.others u nu) ∙ q)) ∙ worker)))), (λ q. none_some (sym (rested_worker m t) ∙ (sym (same t) ∙ q))))
    ])
    | inr nt ↦
        let before : (heap_of n z).worker ≡ (heap_of l z).worker = same z ∙ (ap (λ (h : Heap). h.worker) (heaps_rested z nt) ∙ workers_m z) in
        elim (cases_eq u w) [
          | inl f ↦ ((λ q. none_some (sym C.task_out ∙ (ap c'.task_out (sym f) ∙ q))), (λ q. absurd (nt (same_Some z t (sym ((T.task_out w z).1 (sym before ∙ (q ∙ ap Some f))) ∙ (T.task_out w t).1 worker)))))
          | inr nu ↦ ((λ q. before ∙ (T.task_out u z).0 (sym (C.others u nu) ∙ q)), (λ q. C.others u nu ∙ (T.task_out u z).1 (sym before ∙ q)))
        ]
  ]
    where
      none_some : {A : Type 0} {y : ℕ} → ◌≡◌ {A = Option ℕ} None (Some y) → A
      none_some e = absurd cc

  ended_workers : (n : Ledger) → EndsTask (rested m t) n t x → (z : ℕ) → (heap_of n z).worker ≡ (heap_of (rested m t) z).worker
  ended_workers n L z = elim (cases_eq z t) [
    | inl e ↦ subst (λ y. (heap_of n y).worker ≡ (heap_of (rested m t) y).worker) (sym e) (ap (λ (h : Heap). h.worker) L.heap)
    | inr ne ↦ ap (λ (h : Heap). h.worker) (L.alone.heaps z ne)
  ]

  -- no worker holds a task that doesn't exist
  unmade_rests : (a : ℕ) → (a ≡ t → ⊥) → slice_get (rested m t).machine.tasks a ≡ None → (heap_of (rested m t) a).worker ≡ None
  unmade_rests a ne none = ap (λ (h : Heap). h.worker) (heaps_rested a ne) ∙ E.idle a (ap is_running (sym (tasks_rested a) ∙ none))

  forked_workers : (g h : ℕ) → ForksTask (rested m t) l' t (length m.machine.tasks) (length m.machine.tasks + 1) g h x → (z : ℕ) → (heap_of l' z).worker ≡ (heap_of (rested m t) z).worker
  forked_workers g h L z =
      let a : ℕ = length m.machine.tasks in
      elim (cases_eq z t) [
        | inl e ↦ subst (λ y. (heap_of l' y).worker ≡ (heap_of (rested m t) y).worker) (sym e) (ap (λ (i : Heap). i.worker) L.heap ∙ sym (rested_worker m t))
        | inr nt ↦ elim (cases_eq z a) [
          | inl e ↦ subst (λ y. (heap_of l' y).worker ≡ (heap_of (rested m t) y).worker) (sym e) (ap (λ (i : Heap). i.worker) L.heap_left ∙ sym (unmade_rests a L.left_apart L.unmade_left))
          | inr na ↦ elim (cases_eq z (a + 1)) [
            | inl e ↦ subst (λ y. (heap_of l' y).worker ≡ (heap_of (rested m t) y).worker) (sym e) (ap (λ (i : Heap). i.worker) L.heap_right ∙ sym (unmade_rests (a + 1) L.right_apart L.unmade_right))
            | inr nb ↦ ap (λ (i : Heap). i.worker) (L.heaps z nt na nb)
          ]
        ]
      ]

  joined_workers : (J : EndsLast m l' t x) → (z : ℕ) → (heap_of l' z).worker ≡ (heap_of (rested m t) z).worker
  joined_workers J z = elim (cases_eq z J.parent) [
    | inl e ↦ subst (λ y. (heap_of l' y).worker ≡ (heap_of (rested m t) y).worker) (sym e) (ap (λ (i : Heap). i.worker) J.joins.heap)
    | inr np ↦ elim (cases_eq z J.left) [
      | inl e ↦ subst (λ y. (heap_of l' y).worker ≡ (heap_of (rested m t) y).worker) (sym e) (ap (λ (i : Heap). i.worker) J.joins.heap_left ∙ sym J.can.left_rests)
      | inr nl ↦ elim (cases_eq z (J.left + 1)) [
        | inl e ↦ subst (λ y. (heap_of l' y).worker ≡ (heap_of (rested m t) y).worker) (sym e) (ap (λ (i : Heap). i.worker) J.joins.heap_right ∙ sym J.can.right_rests)
        | inr nr ↦ ap (λ (i : Heap). i.worker) (J.joins.heaps z np nl nr)
      ]
    ]
  ]

  -- WITH THE COUNTS

  outputs_m : m.machine.outputs ≡ l.machine.outputs
  outputs_m = (steps_kin p s t k l S.private).outputs

  steps_then : l'.steps ≡ l.steps + suc k
  steps_then =
      let a : l'.steps ≡ m.steps + 1 = ap (λ (z : Ledger). z.steps) S.after ∙ task_steps_steps p 1 m t in
      let b : m.steps ≡ l.steps + k = task_steps_steps p k l t in
      omega (arith, a, b)

  totals : (n : Ledger) → n.steps ≡ l'.steps → in_use n ≡ in_use l → n.machine.outputs ≡ c'.outputs → n.end ≡ c'.end → c'.used ≡ c.used → c'.steps ≡ c.steps + suc k → ((u z : ℕ) → c'.task_out u ≡ Some z ↔ (heap_of n z).worker ≡ Some u) → ((u : ℕ) → c'.node u ≡ node_at n u) → TreeCountsStand c' n
  totals n same usage outputs end used steps task_out node = record {
    node = node;
    task_out = task_out;
    used = used ∙ (T.used ∙ sym usage);
    steps = steps ∙ (ap (λ j. j + suc k) T.steps ∙ (sym steps_then ∙ sym same));
    outputs = sym outputs;
    end = sym end;
  }

  -- BY ITS LAST STEP

  module _ (alive : l.end ≡ None) (same_use_then : in_use l' ≡ in_use l) where
    on_end : l'.machine.end ≡ None → l'.end ≡ l.end
    on_end on = ran_end p s l l' t w k E (alive_machine p s l l' t w k E) on

    -- after a step after which the run goes on
    goes : l'.machine.end ≡ None → l'.machine.outputs ≡ c'.outputs → c'.end ≡ c.end → c'.used ≡ c.used → c'.steps ≡ c.steps + suc k → ((u z : ℕ) → c'.task_out u ≡ Some z ↔ (heap_of l' z).worker ≡ Some u) → ((u : ℕ) → c'.node u ≡ node_at l' u) → TreeCountsStand c' (handed l')
    goes on outputs end used steps task_out node =
        subst (TreeCountsStand c') (sym (handed_on l' (on_end on ∙ alive))) (totals l' refl same_use_then outputs (on_end on ∙ (sym T.end ∙ sym end)) used steps task_out node)

    -- the same outputs as before
    same_outputs : l'.machine.outputs ≡ m.machine.outputs → c'.outputs ≡ c.outputs → l'.machine.outputs ≡ c'.outputs
    same_outputs e o = e ∙ (outputs_m ∙ (sym T.outputs ∙ sym o))

    private_then : is_private p m.machine t ≡ true → StepsAlone m l' t
    private_then h = subst (λ (z : Ledger). StepsAlone m z t) (sym S.after) (private_alone p m t h (before_last.known p s l l' t w k E).sound)

    set_task_out : (m' : MachineState) → l' ≡ stepped_by m m' → TasksOutStay c c' → (u z : ℕ) → c'.task_out u ≡ Some z ↔ (heap_of l' z).worker ≡ Some u
    set_task_out m' e = task_out_same l' (workers_on l' (ap (λ (z : Ledger). (heap_of z t).worker) e ∙ E.out) (λ z ne. ap (λ (y : Ledger). (heap_of y z).worker) e))

    counts_by_kind : (kind : LastKind) (K : IsOfKind p m l' t x S.line kind) → (GoesOn kind → l'.machine.end ≡ None) → RanCounts p c c' m l' t w k x S.line kind K → TreeCountsStand c' (handed l')
    counts_by_kind Private K on N = goes (on tt) (same_outputs (ap (λ (z : Ledger). z.machine.outputs) S.after ∙ (private_kin p m t K).outputs) N.outputs) N.end N.used N.steps (task_out_same l' (workers_on l' (ap (λ (z : Ledger). (heap_of z t).worker) S.after ∙ (worker_step p s t m K ∙ E.out)) (λ z ne. ap (λ (h : Heap). h.worker) ((private_then K).heaps z ne))) N.task_out) (privately K N.tree)
    counts_by_kind Reading K on N =
        goes (on tt) (same_outputs (ap (λ (z : Ledger). z.machine.outputs) K.goes) N.outputs) N.end N.used N.steps (set_task_out _ K.goes N.task_out) (sets (record x { top = K.frame }) _ K.goes refl refl refl N.tree)
    counts_by_kind Writing K on N =
        goes (on tt) (same_outputs (ap (λ (z : Ledger). z.machine.outputs) K.goes) N.outputs) N.end N.used N.steps (set_task_out _ K.goes N.task_out) (sets (record x { top = K.frame }) _ K.goes refl refl refl N.tree)
    counts_by_kind Printing K on N =
        goes (on tt)
        (ap (λ (z : Ledger). z.machine.outputs) K.goes ∙ (ap (λ os. os ++ int_in x.top K.register ∷ []) (outputs_m ∙ sym T.outputs) ∙ sym N.outputs)) N.end N.used N.steps (set_task_out _ K.goes N.task_out) (sets (record x { top = onward x.top }) _ K.goes refl refl refl N.tree)
    counts_by_kind Forking K on N = goes (on tt) (same_outputs K.outputs N.outputs) N.end N.used N.steps (task_out_goes l' (forked_workers K.left K.right K.forks) N.task_out) (forked K.left K.right K.forks N.tree)
    counts_by_kind Ending K on N = goes (on tt) (same_outputs K.outputs N.outputs) N.end N.used N.steps (task_out_goes l' (ended_workers l' K.ends) N.task_out) (ended l' K.ends N.tree)
    counts_by_kind Joining K on N = goes (on tt) (same_outputs K.outputs N.outputs) N.end N.used N.steps (task_out_goes l' (joined_workers K) N.task_out) (joined K N.tree)
    counts_by_kind Finishing K on N =
        let with = with_steps l' t let_go in
        subst (TreeCountsStand c') (sym (handed_done l l' t w k p s E K))
        (totals (rested l' t) with.0 (same_use l' t let_go (λ h. refl) ∙ same_use_then) (ap (λ (z : MachineState). z.outputs) (heap_machine l' t let_go) ∙ same_outputs K.outputs N.outputs) (with.1 ∙ (K.is ∙ sym N.end)) N.used N.steps (task_out_goes (rested l' t) (ended_workers (rested l' t) K.ends) N.task_out) (ended (rested l' t) K.ends N.tree))
    counts_by_kind Halting K on N =
        subst (TreeCountsStand c') (sym (handed_halt m l' K))
        (totals l' refl same_use_then (same_outputs (ap (λ (z : MachineState). z.outputs) K.machine) N.outputs) (K.is ∙ sym N.end) N.used N.steps (task_out_same l' (workers_on l' (ap (λ hs. (or_fresh (slice_get hs t)).worker) K.heaps ∙ E.out) (λ z ne. ap (λ hs. (or_fresh (slice_get hs z)).worker) K.heaps)) N.task_out) (halted K N.tree))
      where
        halted : Halts m l' → NodesStay c c' → (u : ℕ) → c'.node u ≡ node_at l' u
        halted H N =
            let is : slice_get l'.machine.tasks t ≡ Some x = ap (λ (z : MachineState). slice_get z.tasks t) H.machine ∙ S.at.task in
            let heaps : (u : ℕ) → (heap_of l' u).worker ≡ (heap_of m u).worker = λ u. ap (λ hs. (or_fresh (slice_get hs u)).worker) H.heaps in
            stays x is refl S.at.runs (heaps t ∙ E.out) (λ u ne. ap (λ (z : MachineState). slice_get z.tasks u) H.machine) (λ u ne. heaps u) N

    pub ran_counts : RanCounts p c c' m l' t w k x S.line S.kind S.last → TreeCountsStand c' (handed l')
    ran_counts = counts_by_kind S.kind S.last S.on
