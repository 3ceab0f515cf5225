-- What is reachable from some names within a heap.
use Rattle.std.specs.Prelude.{ℕ, zero, suc, ◌==◌, ◌&&◌, ◌||◌, Bool, List, length, filter, Contains}
use Rattle.std.specs.List.{list_any}
use Rattle.run_ledger.specs.Common.{IsReached, Name, Object, refs_at}

abbrev pub is_name : Name → Name → Bool
is_name m n = (m.task == n.task) && (m.count == n.count)

abbrev pub holds_name : List Name → Name → Bool
holds_name ns n = list_any (is_name n) ns

-- those of these names that are found or to which a found one refers
abbrev pub once_more : List (List Object) → List Name → List Name → List Name
once_more store names found = filter (λ n. holds_name found n || list_any (λ m. holds_name (refs_at store m) n) found) names

-- those of these names that are reachable from the roots over at most n references, through these names alone
abbrev pub reached_by : List (List Object) → List Name → List Name → ℕ → List Name
reached_by store names roots zero = filter (holds_name roots) names
reached_by store names roots (suc more) = once_more store names (reached_by store names roots more)

-- those of these names that are reachable from the roots through these names alone, in the given order
abbrev pub reached : List (List Object) → List Name → List Name → List Name
reached store names roots = reached_by store names roots (length names)

-- WALKS

-- a walk through these names begins at a root among them
abbrev pub StartsWithin : List Name → List Name → Name → Type 0
StartsWithin names roots n = Contains names n × Contains roots n

-- and goes on along a reference to one of them
abbrev pub LeadsWithin : List (List Object) → List Name → Name → Name → Type 0
LeadsWithin store names m n = Contains names n × Contains (refs_at store m) n

abbrev pub IsReachedWithin : List (List Object) → List Name → List Name → Name → Type 0
IsReachedWithin store names roots n = IsReached (StartsWithin names roots) (LeadsWithin store names) n
