-- The two children of a fork, the left one and the right one, and how many chunks are taken from a task's slot.
use Rattle.fork_join_commit.proofs.Common.{◌≡◌, ℕ, ◌+◌, ◌-◌, ◌%◌, ◌<◌, arith, Bool, true, false, Option, Some, None, length, option_map, inl, inr, refl, ap, sym, ◌∙◌, eq-eqb, cond-false, cond-true, eqb-false, same_Some, none_some, Waiting as WaitingOf, Task, TaskNode, is_left, sibling, RememberedValue, EndedChild, Private, ParkedTask, as_node, AreSides, IsRestOf, chunk_count, left_child_of, other_child, own_child, right_of}
use Rattle.step_commit.specs.below.heap_tree.{Waiting}

-- ---- A TASK THAT WAITS, in the tree

pub waits_in : (wk : Option ℕ) (n : Option TaskNode) (x : Task) → x.status ≡ WaitingOf → n ≡ Some (as_node wk x) → option_map (λ (i : TaskNode). i.state) n ≡ Some Waiting
waits_in wk None x e h = none_some h
waits_in wk (Some n) x e h =
    ap Some (ap (λ (z : TaskNode). z.state) (same_Some n (as_node wk x) h) ∙ ap (λ s. (as_node wk (record x { status = s })).state) e)

-- ---- SIDES

module _ (p : Private) (beside : ParkedTask) (own_notes other_notes : RememberedValue) (low : 0 < p.task) where
  abbrev t : ℕ
  t = p.task

  abbrev s : ℕ
  s = sibling t

  abbrev own : EndedChild
  own = own_child p own_notes

  abbrev oth : EndedChild
  oth = other_child s beside other_notes

  abbrev Sided : Bool → Type 0
  Sided b = AreSides p s beside (left_child_of b own oth).side.task (left_child_of b own oth).side.heap (right_of b own oth).side.heap (left_child_of b own oth).result (right_of b own oth).result

  sided : (b : Bool) → is_left t ≡ b → Sided b
  sided true e = let f : s ≡ t + 1 = cond-true (is_left t) (t + 1) (t - 1) e in inl (refl, f, refl, refl, refl, refl)
  sided false e =
      let f : s ≡ t - 1 = cond-false (is_left t) (t + 1) (t - 1) e in
      let g : t ≡ s + 1 = omega (arith, f, low) in
      inr (refl, g, refl, refl, refl, refl)

  pub sides : Sided (is_left t)
  sides = sided (is_left t) refl

  next_by : (b : Bool) → is_left t ≡ b → (right_of b own oth).side.task ≡ (left_child_of b own oth).side.task + 1
  next_by true e = cond-true (is_left t) (t + 1) (t - 1) e
  next_by false e = let f : s ≡ t - 1 = cond-false (is_left t) (t + 1) (t - 1) e in let g : t ≡ s + 1 = omega (arith, f, low) in g

  pub right_next : (right_of (is_left t) own oth).side.task ≡ (left_child_of (is_left t) own oth).side.task + 1
  right_next = next_by (is_left t) refl

  -- the left child's number is odd, and the right one is its sibling
  odd_by : (b : Bool) → is_left t ≡ b → (is_left (left_child_of b own oth).side.task ≡ true) × ((right_of b own oth).side.task ≡ sibling (left_child_of b own oth).side.task)
  odd_by true e = (e, refl)
  odd_by false e =
      let f : s ≡ t - 1 = cond-false (is_left t) (t + 1) (t - 1) e in
      let even : t % 2 ≡ 1 → ⊥ = eqb-false (t % 2) 1 e in
      let odd : s % 2 ≡ 1 = omega (arith, f, even, low) in
      let left : is_left s ≡ true = eq-eqb (s % 2) 1 odd in
      let g : t ≡ s + 1 = omega (arith, f, low) in
      (left, g ∙ sym (cond-true (is_left s) (s + 1) (s - 1) left))

  pub in_pairs : (is_left (left_child_of (is_left t) own oth).side.task ≡ true) × ((right_of (is_left t) own oth).side.task ≡ sibling (left_child_of (is_left t) own oth).side.task)
  in_pairs = odd_by (is_left t) refl

  -- what holds for both holds for each
  pub each : (P : EndedChild → Type 0) → P own → P oth → P (left_child_of (is_left t) own oth) × P (right_of (is_left t) own oth)
  each P a b = each_by_cases (is_left t)
    where
      each_by_cases : (b : Bool) → P (left_child_of b own oth) × P (right_of b own oth)
      each_by_cases true = (a, b)
      each_by_cases false = (b, a)

  -- counts of both together
  both_by : (f : EndedChild → ℕ) (b : Bool) → f (left_child_of b own oth) + f (right_of b own oth) ≡ f own + f oth
  both_by f true = refl
  both_by f false = omega arith

  pub both : (f : EndedChild → ℕ) → f (left_child_of (is_left t) own oth) + f (right_of (is_left t) own oth) ≡ f own + f oth
  both f = both_by f (is_left t)

pub count_of : (o : Option ParkedTask) (r : ParkedTask) → IsRestOf o r → length r.heap.chunks ≡ chunk_count o
count_of None r e = ap (λ (z : ParkedTask). length z.heap.chunks) e.2
count_of (Some x) r e = ap (λ (z : ParkedTask). length z.heap.chunks) e
