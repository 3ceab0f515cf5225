-- Which worker holds nothing after a task has forked or ended.
use Rattle.std.specs.Prelude.{◌≢◌, ℕ, Some}
use Rattle.fork_join_commit.specs.Common.{heap_of, handed, SharedValue, accounts}

-- the worker holds no task; after the run is done the root is returned
abbrev pub HoldsNone : SharedValue → ℕ → Type 0
HoldsNone w k = (t : ℕ) → (heap_of (handed (accounts w)) t).worker ≢ Some k
