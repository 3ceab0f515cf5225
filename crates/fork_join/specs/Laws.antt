-- What forks and joins leave unchanged.
use Rattle.std.specs.Prelude.{◌≡◌, ℕ, true, false, Contains, IsSome, Some, List, ◌++◌}
use Rattle.fork_join.specs.Common.{ChunkValue, has_chunk, PoolValue, slot_at, owner_of, RefField, lifted}
use Rattle.fork_join.specs.Joined.{AreRelabelled}

-- the owner of a number after these chunks changed their owner
abbrev pub JoinedAreOwned : Type 0
JoinedAreOwned =
    (old new : PoolValue) (ks : List ChunkValue) (owner : ℕ) → AreRelabelled old new ks owner → (number : ℕ)
    → (has_chunk ks number ≡ true → IsSome (slot_at old number) → owner_of new number ≡ Some owner)
    × (has_chunk ks number ≡ false → owner_of new number ≡ owner_of old number)

-- what a join changes of the pool and of the sets by heap, if its three heaps have these chunks and it empties the sets
-- of both children
pub record Merges (old new : PoolValue) (sources after : ℕ → List RefField) (p c d : ℕ) (ks ls rs : List ChunkValue) : Type 0 where
  pub pool : AreRelabelled old new (ls ++ rs) p
  pub lifts : after p ≡ lifted (lifted (sources p) (sources c) ks) (sources d) ks
  pub others : (u : ℕ) → (u ≡ p → ⊥) → (u ≡ c → ⊥) → (u ≡ d → ⊥) → after u ≡ sources u
