-- What tasks hold: the roots from which their objects are reached.
use Rattle.std.specs.Prelude.{List, [], ◌∷◌, ◌++◌, if◌then◌else◌}
use Rattle.run_deltas.specs.Common.{Name, Task, task_names, holds_name}

-- a name more, unless it is there
abbrev pub with_root : List Name → Name → List Name
with_root found n = if holds_name found n then found else found ++ n ∷ []

-- names more, each once
abbrev pub with_roots : List Name → List Name → List Name
with_roots found [] = found
with_roots found (n ∷ ns) = with_roots (with_root found n) ns

-- what a task holds, each name once: what its frames' registers hold or, once it has ended, its result
abbrev pub roots : Task → List Name
roots x = with_roots [] (task_names x)
