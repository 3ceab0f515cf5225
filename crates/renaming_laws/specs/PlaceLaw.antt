-- The law that places identify tasks.
use Rattle.std.specs.Prelude.{◌≡◌, ℕ, ◌<◌, List, length}
use Rattle.hh_lang.specs.Form.{ProgramText}
use Rattle.hh_model.specs.declared.data.Edge.{Edge}
use Rattle.hh_model.specs.Step.{run}
use Rattle.renaming_laws.specs.Places.{ForkPlace, IsForkPlace}

-- each of n tasks has exactly one place, and no two have the same
pub record NameTasks (edges : List Edge) (tasks : ℕ) : Type 0 where
  pub each : (t : ℕ) → t < tasks → (place : ForkPlace) × IsForkPlace edges place t
  pub one : (place other : ForkPlace) (t : ℕ) → IsForkPlace edges place t → IsForkPlace edges other t → place ≡ other
  pub apart : (place : ForkPlace) (t u : ℕ) → IsForkPlace edges place t → IsForkPlace edges place u → t ≡ u

-- so a renaming of one run into another is determined: it maps each task to the one at its place
abbrev pub PlacesAreNames : Type 0
PlacesAreNames = (p : ProgramText) (limit : ℕ) (ts : List ℕ) → let m = run p limit ts in NameTasks m.edges (length m.tasks)
