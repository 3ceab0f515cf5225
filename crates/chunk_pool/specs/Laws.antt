-- The owner of a number in use: the task for which it was taken or to which it was given.
use Rattle.std.specs.Prelude.{◌≡◌, ◌≢◌, ◌⊎◌, ℕ, true, false, List, IsSome, Some}
use Rattle.object_layout.specs.ChunkValue.{ChunkValue}
use Rattle.object_layout.specs.Chunks.{has_chunk}
use Rattle.chunk_pool.specs.declared.pool.Slot.{Slot}
use Rattle.chunk_pool.specs.PoolValue.{PoolValue, slot_at, owner_of, Releases, Relabels, Reserves, TakesAll}

-- after a change at one number, that number belongs to its new owner, and any other to the same as before
abbrev pub OwnersFrom : PoolValue → PoolValue → ℕ → ℕ → Type 0
OwnersFrom old new number owner = (k u : ℕ) → owner_of new k ≡ Some u → ((k ≡ number) × (u ≡ owner)) ⊎ (owner_of old k ≡ Some u)

-- any other number keeps its owner
abbrev pub OwnersStay : PoolValue → PoolValue → ℕ → Type 0
OwnersStay old new number = (k : ℕ) → k ≢ number → owner_of new k ≡ owner_of old k

pub record OwnersAreTold : Type 0 where
  pub taken : (old new : PoolValue) (number : ℕ) (slot : Slot) → Reserves old new number slot → OwnersFrom old new number slot.owner × OwnersStay old new number
  pub relabelled : (old new : PoolValue) (number owner : ℕ) → IsSome (slot_at old number) → Relabels old new number owner → OwnersFrom old new number owner × OwnersStay old new number
  pub given : (old new : PoolValue) (number : ℕ) → Releases old new number → ((k u : ℕ) → owner_of new k ≡ Some u → owner_of old k ≡ Some u) × OwnersStay old new number

-- the same if many were taken: each of them belongs to the new owner, and any other number keeps its owner
abbrev pub TakenAreOwned : Type 0
TakenAreOwned =
    (old new : PoolValue) (owner count : ℕ) (was is : List ChunkValue) (t : TakesAll old new owner count was is) (k : ℕ)
    → (has_chunk t.numbers.chunks k ≡ true → owner_of new k ≡ Some owner) × (has_chunk t.numbers.chunks k ≡ false → owner_of new k ≡ owner_of old k)
