-- What is known of the machine and the tree of a shared value, whose root is at rest after the run is done.
use Rattle.heap_picture.proofs.Common.{◌≡◌, ℕ, ◌+◌, ◌^◌, ◌<◌, ◌≤◌, arith, false, Option, Some, None, List, length, max, slice_get, refl, ap, sym, subst, ◌∙◌, false≢true, slice_get_within, Name, Object, MachineState, Task, Counted, object_at, row_of, is_running, joined, owner_of, parents, run, HasOneRoot, TreeOf, joins_in, waiting, AreOwners, ArePaths, owners_are_walks, paths_are_walks, runs_have_one_root, limit_stays, sizes_are_bounded, Version, One, Two, field_limit, Ledger, heap_of, held_in, tasks_of, steps_are_bounded, machine_is_run, journals_are_counted, Joined as IsJoined, state_of, Rests, handed, IsSharedValue, SharedValue, accounts, LiveTask, is_state_running, IsLive, journal_idle, handed_held, runs_is, joined_now, live_now, node_at, same_machine, sound, task_of, tree_of}
use Rattle.heap_image.specs.below.plain_vec.{In}

few_by : (v : Version) → max (field_limit v) 32 ≤ 1000000
few_by One = omega arith
few_by Two = omega arith

module _ (w : SharedValue) (I : IsSharedValue w) where
  abbrev pub l : Ledger
  l = accounts w

  abbrev pub k : Ledger
  k = handed l

  abbrev pub T : List Task
  T = k.machine.tasks

  pub known_machine : k.machine ≡ l.machine
  known_machine = same_machine w I

  pub tree : TreeOf T k.machine.edges
  tree = subst (λ (m : MachineState). TreeOf m.tasks m.edges) (sym known_machine) (tree_of w I)

  abbrev ran : l.machine ≡ run w.program (field_limit w.settings.version) (tasks_of w.journal.items)
  ran = machine_is_run w.program w.settings w.journal.items

  pub root : HasOneRoot T
  root = subst (λ (m : MachineState). HasOneRoot m.tasks) (sym (known_machine ∙ ran)) (runs_have_one_root w.program (field_limit w.settings.version) (tasks_of w.journal.items))

  pub owners : AreOwners (parents T) (joined T) (waiting T)
  owners = owners_are_walks _ (parents T) (joined T) (waiting T) (joins_in T) k.machine.edges tree

  pub paths : ArePaths (parents T)
  paths = paths_are_walks (parents T) tree.low

  -- COUNTS
  counted : Counted l.steps T k.machine.store
  counted = subst (λ (m : MachineState). Counted l.steps m.tasks m.store) (sym known_machine) (journals_are_counted w.program w.settings w.journal.items).counts

  few_steps : l.steps ≤ 1000000256
  few_steps =
      let a : l.steps ≤ w.settings.fuel + 256 = steps_are_bounded w.program w.settings w.journal.items I.legal in
      let b : w.settings.fuel ≤ 1000000000 = I.settings.fuel.1 in
      omega (arith, a, b)

  pub few : length T < 2 ^ 32
  few = let a = counted.made in let b = few_steps in omega (arith, a, b)

  pub stored_few : (n : Name) (x : Object) → object_at k.machine.store n ≡ Some x → (n.task < 2 ^ 32) × (n.count < 2 ^ 32)
  stored_few n x e = (task (slice_get k.machine.store n.task) refl, count)
    where
      count : n.count < 2 ^ 32
      count =
          let a = slice_get_within (row_of (slice_get k.machine.store n.task)) n.count x e in
          let b = counted.objects n.task in
          let c = few_steps in
          omega (arith, a, b, c)

      task : (o : Option (List Object)) → slice_get k.machine.store n.task ≡ o → n.task < 2 ^ 32
      task None is = absurd (let none : None ≡ Some x = sym (ap (λ r. slice_get (row_of r) n.count) is) ∙ e in cc)
      task (Some row) is =
          let a = slice_get_within k.machine.store n.task row is in
          let b : length k.machine.store ≡ length T = counted.rows in
          let c = few in
          omega (arith, a, b, c)

  pub fields_few : (n : Name) (x : Object) → object_at k.machine.store n ≡ Some x → length x.refs + length x.ints ≤ 1000000
  fields_few n x e =
      let m : MachineState = run w.program (field_limit w.settings.version) (tasks_of w.journal.items) in
      let a = (sizes_are_bounded w.program (field_limit w.settings.version) (tasks_of w.journal.items)).together n x (subst (λ (z : MachineState). object_at z.store n ≡ Some x) (known_machine ∙ ran) e) in
      let b : m.field_limit ≡ field_limit w.settings.version = limit_stays w.program (field_limit w.settings.version) (tasks_of w.journal.items) in
      let c = few_by w.settings.version in
      let d : length x.refs + length x.ints ≤ max (field_limit w.settings.version) 32 = subst (λ f. length x.refs + length x.ints ≤ max f 32) b a in
      omega (arith, c, d)

  -- TASKS
  pub live_task : (x : LiveTask) → IsLive w x → (y : Task) × (slice_get T x.number ≡ Some y) × (x.parent ≡ y.parent) × (joined T x.number ≡ false)
  live_task x L =
      let y = task_of w I x.number (record { parent = x.parent; state = x.state }) L.is in
      (y.0, ap (λ (m : MachineState). slice_get m.tasks x.number) known_machine ∙ y.1, y.2.parent, ap (λ (m : MachineState). joined m.tasks x.number) known_machine ∙ live_now w I x.number (record { parent = x.parent; state = x.state }) L.is L.live)

  pub task_live : (t : ℕ) (y : Task) → slice_get T t ≡ Some y → joined T t ≡ false → (x : LiveTask) × IsLive w x × (x.number ≡ t) × (x.parent ≡ y.parent)
  task_live t y e live =
      let n = node_at w I t y (ap (λ (m : MachineState). slice_get m.tasks t) (sym known_machine) ∙ e) in
      let x : LiveTask = record { number = t; parent = n.0.parent; state = n.0.state } in
      let off : n.0.state ≡ IsJoined → ⊥ = λ j. false≢true (sym live ∙ (ap (λ (m : MachineState). joined m.tasks t) known_machine ∙ joined_now w I t n.0 n.1 j)) in
      (x, record { is = n.1; live = off }, refl, n.2.parent)

  pub runs : (t : ℕ) → is_state_running (state_of w.tree t) ≡ is_running (slice_get T t)
  runs t = runs_is w I t ∙ ap (λ (m : MachineState). is_running (slice_get m.tasks t)) (sym known_machine)

  pub rests : (t : ℕ) → is_state_running (state_of w.tree t) ≡ false → Rests k t
  rests t idle = journal_idle w.program w.settings w.journal.items I.form I.legal t (sym (runs_is w I t) ∙ idle)

  pub owned : (t : ℕ) (n : Name) → In (held_in (heap_of k t)) n → (n.task < length T) × (owner_of T n.task ≡ t)
  owned t n i =
      let o = (sound w I).owners t n (subst (λ ns. In ns n) (handed_held l t) i) in
      (subst (λ (m : MachineState). n.task < length m.tasks) (sym known_machine) o.0, ap (λ (m : MachineState). owner_of m.tasks n.task) known_machine ∙ o.1)
