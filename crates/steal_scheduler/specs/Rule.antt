-- The invariant of one deque between any two steps, and what each step guarantees.
use Rattle.std.specs.Prelude.{◌≡◌, ℕ, ◌+◌, ◌==◌, ◌≤◌, true, false, List, [], ◌++◌, length, sum_by, if◌then◌else◌}
use mathlib.Core.Option.{some}
use lib.ListN.{get_elem?}
use Rattle.steal_scheduler.specs.declared.view.PassView.{PassView}

-- how often x is in the list
abbrev pub times : ℕ → List ℕ → ℕ
times x xs = sum_by (λ y. if y == x then 1 else 0) xs

-- what the owner knows of a new deque
abbrev pub opening_view : PassView
opening_view = record { owns = true; put = []; taken = []; outstanding = [] }

-- what a thief knows before its first theft
abbrev pub guest_view : PassView
guest_view = record { owns = false; put = []; taken = []; outstanding = [] }

-- after the owner put these
abbrev pub with_put : PassView → List ℕ → PassView
with_put v xs = record v { put = v.put ++ xs; outstanding = v.outstanding ++ xs }

-- after a thief took these
abbrev pub with_taken : PassView → List ℕ → PassView
with_taken v xs = record v { taken = v.taken ++ xs }

-- the owner took back the newest of what was outstanding
pub record TookBack (v : PassView) (xs : List ℕ) (w : PassView) : Type 0 where
  pub owns : w.owns ≡ v.owns
  pub put : w.put ≡ v.put
  pub taken : w.taken ≡ v.taken ++ xs
  pub newest : v.outstanding ≡ w.outstanding ++ xs

-- the numbers put on the deque are those that all hands took from it and those left, each as often; and what the owner
-- put and has not taken back is, in order, what was stolen and what is left
pub record Dealt (items : List ℕ) (views : List PassView) : Type 0 where
  pub balanced : (x : ℕ) → sum_by (λ v. times x v.put) views ≡ sum_by (λ v. times x v.taken) views + times x items
  pub stolen : List ℕ
  pub in_order : (port : ℕ) (v : PassView) → get_elem? views port ≡ some v → v.owns ≡ true → (port ≡ 0) × (v.outstanding ≡ stolen ++ items)

-- the invariant allows a state of the deque with at most `most` numbers in which one of its passes has this view
pub record HasAtMost (most : ℕ) (v : PassView) : Type 0 where
  pub items : List ℕ
  pub views : List PassView
  pub port : ℕ
  pub few : length items ≤ most
  pub dealt : Dealt items views
  pub view_is : get_elem? views port ≡ some v
