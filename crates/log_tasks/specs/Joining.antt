-- Joins of what is unjoined.
use Rattle.std.specs.Prelude.{ℕ, Bool, not, Option, Some, None, List, [], ◌∷◌, map, filter, reverse, if◌then◌else◌}
use Rattle.log_tasks.specs.Common.{GraphTurn, Spawn, Join, spawned_by}

-- the child that a turn spawns, unless it is joined
abbrev pub left_by : (ℕ → Bool) → GraphTurn → Option ℕ
left_by joined (Spawn c) = if joined c then None else Some c
left_by joined (Join c) = None

-- the join of a child, if there is one
abbrev pub joins_of : Option ℕ → List GraphTurn
joins_of None = []
joins_of (Some c) = Join c ∷ []

-- joins of all children that turns spawn and that aren't joined, last spawned first
abbrev pub joins_for : (ℕ → Bool) → List GraphTurn → List GraphTurn
joins_for joined turns = map Join (filter (λ c. not (joined c)) (reverse (spawned_by turns)))
