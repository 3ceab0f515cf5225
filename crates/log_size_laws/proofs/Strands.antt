-- A graph of fork-join tasks has at most three strands for each task.
use Rattle.log_size_laws.proofs.Common.{◌≡◌, ◌+◌, ◌*◌, ◌<◌, ◌≤◌, inl, inr, ℕ, zero, suc, Option, Some, None, List, length, map, slice_get, refl, ap, sym, subst, ◌∙◌, arith, length-map, In, AreDifferent, in_got, map_in, got_some, TaskTurns, Does, IsAncestor, IsForkJoin, IsNested, GraphStrand, GraphTurn, IsSerialOrder, serial_order, serial_order_extends, levels_are_few, up_cases, IsRooted, attached_rooted, strand_is}
use Rattle.fork_graph.specs.declared.graph.GraphTurn.TheVariants.{Spawn, Join}
use Rattle.log_size_laws.proofs.Counting.{few_numbers, different_back, different_map}

-- the number of a strand: each task has its first one, the one after its spawn, and the one after its join
abbrev after_number : Option GraphTurn → ℕ
after_number None = 0
after_number (Some (Spawn c)) = 3 * c + 1
after_number (Some (Join c)) = 3 * c + 2

module _ (tasks : TaskTurns) (n : ℕ) (nested : IsNested tasks) (some : 0 < n) (below : (t i c : ℕ) → Does tasks t i (Spawn c) → c < n) where
  abbrev number_at : ℕ → ℕ → ℕ
  number_at t zero = 3 * t
  number_at t (suc i) = after_number (slice_get (tasks t) i)

  abbrev number : GraphStrand → ℕ
  number u = number_at u.task u.index

  fj : IsForkJoin tasks
  fj = nested.fork_join

  joined_below : (t i c : ℕ) → Does tasks t i (Join c) → c < n
  joined_below t i c does = let s = fj.joins_own c t i does in below t s.0 c s.2

  number_below : (t i : ℕ) → t < n → i ≤ length (tasks t) → number_at t i < 3 * n
  number_below t zero lt le = omega (arith, lt)
  number_below t (suc i) lt le = let turn = got_some (tasks t) i (omega (arith, le)) in by turn.0 turn.1
    where
      by : (turn : GraphTurn) → slice_get (tasks t) i ≡ Some turn → after_number (slice_get (tasks t) i) < 3 * n
      by (Spawn c) e = rw e (let c_below = below t i c e in omega (arith, c_below))
      by (Join c) e = rw e (let c_below = joined_below t i c e in omega (arith, c_below))

  -- turns after which strands have one number are one
  same_turn : (t i s j : ℕ) (a b : GraphTurn) → Does tasks t i a → Does tasks s j b → after_number (Some a) ≡ after_number (Some b) → (t ≡ s) × (i ≡ j)
  same_turn t i s j (Spawn c) (Spawn d) does other same = let e : d ≡ c = omega (arith, same) in fj.spawned_once c t i s j does (subst (λ k. Does tasks s j (Spawn k)) e other)
  same_turn t i s j (Spawn c) (Join d) does other same = absurd (omega (arith, same))
  same_turn t i s j (Join c) (Spawn d) does other same = absurd (omega (arith, same))
  same_turn t i s j (Join c) (Join d) does other same =
      let e : d ≡ c = omega (arith, same) in
      let there = subst (λ k. Does tasks s j (Join k)) e other in
      let one = fj.joins_own c t i does in
      let two = fj.joins_own c s j there in
      let tasks_same = (fj.spawned_once c t one.0 s two.0 one.2 two.2).0 in
      (tasks_same, fj.joined_once c t i j does (subst (λ k. Does tasks k j (Join c)) (sym tasks_same) there))

  first_number : (t s j : ℕ) (b : GraphTurn) → 3 * t ≡ after_number (Some b) → ⊥
  first_number t s j (Spawn d) same = absurd (omega (arith, same))
  first_number t s j (Join d) same = absurd (omega (arith, same))

  same_strand : (t i s j : ℕ) → i ≤ length (tasks t) → j ≤ length (tasks s) → number_at t i ≡ number_at s j → (t ≡ s) × (i ≡ j)
  same_strand t zero s zero le le' same = (omega (arith, same), refl)
  same_strand t zero s (suc j) le le' same =
      let turn = got_some (tasks s) j (omega (arith, le')) in
      absurd (first_number t s j turn.0 (same ∙ ap after_number turn.1))
  same_strand t (suc i) s zero le le' same =
      let turn = got_some (tasks t) i (omega (arith, le)) in
      absurd (first_number s t i turn.0 (sym same ∙ ap after_number turn.1))
  same_strand t (suc i) s (suc j) le le' same =
      let a = got_some (tasks t) i (omega (arith, le)) in
      let b = got_some (tasks s) j (omega (arith, le')) in
      let one = same_turn t i s j a.0 b.0 a.1 b.1 (sym (ap after_number a.1) ∙ (same ∙ ap after_number b.1)) in
      (one.0, ap suc one.1)

  abbrev order : List GraphStrand
  order = serial_order tasks n

  pub O : IsSerialOrder tasks order
  O = serial_order_extends tasks n nested (levels_are_few tasks n fj some below)

  pub stands : (i : ℕ) (u : GraphStrand) → slice_get order i ≡ Some u → IsRooted tasks u
  stands i u at = attached_rooted tasks fj u (O.attached i u at)

  pub task_below : (t : ℕ) → IsAncestor tasks 0 t → t < n
  task_below t above = elim (up_cases tasks 0 t above) [
    | inl root ↦ omega (arith, root, some)
    | inr (p, above_p, does) ↦ below p does.0 t does.1
  ]

  one_place : (i j : ℕ) (u v : GraphStrand) → slice_get order i ≡ Some u → slice_get order j ≡ Some v → number u ≡ number v → i ≡ j
  one_place i j u v at_u at_v same =
      let one = same_strand u.task u.index v.task v.index (stands i u at_u).stands (stands j v at_v).stands same in
      let is : v ≡ u = strand_is v v.task v.index refl refl ∙ sym (strand_is u v.task v.index one.0 one.1) in
      O.once i j u at_u (subst (λ w. slice_get order j ≡ Some w) is at_v)

  numbers_below : (k : ℕ) → In (map number order) k → k < 3 * n
  numbers_below k i =
      let u = map_in number order k i in
      let at = in_got order u.0 u.1 in
      let r = stands at.0 u.0 at.1 in
      let lt = number_below u.0.task u.0.index (task_below u.0.task r.rooted) r.stands in
      let e = u.2 in
      omega (arith, lt, e)

  numbers_differ : AreDifferent (map number order)
  numbers_differ = different_map number order one_place

  pub different_strands : AreDifferent order
  different_strands = different_back number order numbers_differ

  pub few_strands : length order ≤ 3 * n
  few_strands =
      let few = few_numbers (map number order) (3 * n) numbers_differ numbers_below in
      let same = length-map order number in
      omega (arith, few, same)
