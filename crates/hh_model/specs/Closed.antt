-- Sets of names that contain all that tasks hold, and with a name all to which its object refers.
use Rattle.std.specs.Prelude.{◌≡◌, ℕ, Some, List, slice_get}
use Rattle.hh_lang.specs.below.plain_vec.{In}
use Rattle.hh_model.specs.declared.data.Name.{Name}
use Rattle.hh_model.specs.declared.data.Object.{Object}
use Rattle.hh_model.specs.declared.data.Task.{Task}
use Rattle.hh_model.specs.Names.{refs_at, task_names}

pub record Closed (tasks : List Task) (store : List (List Object)) (P : Name → Type 0) : Type 0 where
  pub of_task : (u : ℕ) (x : Task) (r : Name) → slice_get tasks u ≡ Some x → In (task_names x) r → P r
  pub of_object : (n r : Name) → P n → In (refs_at store n) r → P r
