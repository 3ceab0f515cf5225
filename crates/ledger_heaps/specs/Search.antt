-- A search through the names of a heap: those that weren't met yet, and those that were met and whose references are
-- still to be followed.
use Rattle.std.specs.Prelude.{◌≡◌, ℕ, zero, suc, ◌==◌, ◌&&◌, ◌||◌, not, Bool, Option, List, [], ◌∷◌, if◌then◌else◌, slice_get}
use Rattle.std.specs.List.{flat_map}
use Rattle.hh_model.specs.declared.data.Name.{Name}
use Rattle.hh_model.specs.declared.data.Object.{Object}
use Rattle.hh_model.specs.declared.data.Task.{Task}
use Rattle.hh_model.specs.Names.{refs_at}
use Rattle.hh_model.specs.Step.{parents, through}
use Rattle.run_ledger.specs.declared.data.Heap.{Heap}
use Rattle.run_ledger.specs.Heaps.{held_in, or_fresh}
use Rattle.run_ledger.specs.Reachable.{holds_name}

-- these names are met: none of them is unmet any more, and those that were unmet wait too
pub record Meets (names : List Name) (was is : Name → Bool) (front back : List Name) : Type 0 where
  pub unmet : (n : Name) → is n ≡ (was n && not (holds_name names n))
  pub waiting : (n : Name) → holds_name back n ≡ (holds_name front n || (was n && holds_name names n))

-- the tasks that at most n steps from children to parents reach, the nearest first
abbrev pub ancestors_by : (ℕ → Option ℕ) → ℕ → ℕ → List ℕ
ancestors_by par zero t = []
ancestors_by par (suc more) t = through (par t) [] (λ p. p ∷ ancestors_by par more p)

-- the ancestors of a task: a parent's number is smaller than its child's, so the task's number of steps is enough
abbrev pub ancestors : List Task → ℕ → List ℕ
ancestors tasks t = ancestors_by (parents tasks) t t

-- what the held objects of a task's heap refer to; nothing for one task that is excluded
abbrev pub references_from_heaps : List (List Object) → List Heap → ℕ → ℕ → List Name
references_from_heaps store heaps but t = if t == but then [] else flat_map (refs_at store) (held_in (or_fresh (slice_get heaps t)))
