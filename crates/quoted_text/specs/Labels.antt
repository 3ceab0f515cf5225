-- The names of tasks in pictures.
use Rattle.std.specs.Prelude.{ℕ, List, ◌++◌, codes}
use Rattle.std.specs.Fmt.{decimal}

abbrev pub task_name : ℕ → List ℕ
task_name t = codes "task " ++ decimal t
