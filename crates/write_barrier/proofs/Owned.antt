-- What a reference into a chunk in use implies about that chunk's owner.
use Rattle.std.proofs.Common.{◌≡◌, ◌<◌, ℕ, IfSome, IsSome, Option, Some, None, refl}
use Rattle.object_layout.specs.declared.word.Addr.{Addr}
use Rattle.chunk_pool.specs.PoolValue.{PoolValue, owner_of, slot_at}
use Rattle.write_barrier.specs.Stored.{heap_of, PointsIntoOwned}

-- its chunk is in use
pub owned_used : (made : ℕ) (pool : PoolValue) (r : Option Addr) → PointsIntoOwned made pool r → IfSome r (λ a. IsSome (slot_at pool a.chunk))
owned_used made pool None o = tt
owned_used made pool (Some a) o = o.0

-- the heap that it points into exists
pub owned_made : (made : ℕ) (pool : PoolValue) (r : Option Addr) → PointsIntoOwned made pool r → IfSome (heap_of pool r) (λ h. h < made)
owned_made made pool None o = tt
owned_made made pool (Some a) o = owned_made_by_cases (owner_of pool a.chunk) refl where
  owned_made_by_cases : (x : Option ℕ) → owner_of pool a.chunk ≡ x → IfSome x (λ h. h < made)
  owned_made_by_cases None e = tt
  owned_made_by_cases (Some h) e = o.1 h e
