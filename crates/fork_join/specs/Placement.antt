-- Placement: each reference of an object leads up or into the object's own heap, or its field is remembered in the heap
-- into which it leads.
use Rattle.std.specs.Prelude.{◌≡◌, ◌⊎◌, ◌↔◌, ℕ, true, Contains, Some, List}
use Rattle.fork_join.specs.Common.{Addr, ChunkValue, has_chunk, IsUpFrom, TaskNode, parent_of, PoolValue, owner_of, RefField}

-- a field that isn't nil: its object, its index, and its value
pub record FilledField : Type 0 where
  pub object : Addr
  pub number : ℕ
  pub target : Addr

-- the owners of both chunks, if they are in use, satisfy this; the sources are given by heap
abbrev pub OwnersSatisfy : List TaskNode → PoolValue → (ℕ → List RefField) → FilledField → Type 0
OwnersSatisfy nodes pool sources f = (from into : ℕ) → owner_of pool f.object.chunk ≡ Some from → owner_of pool f.target.chunk ≡ Some into →
    IsUpFrom (parent_of nodes) from into ⊎ Contains (sources into) (record { object = f.object; field = f.number })

abbrev pub Placement : List FilledField → List TaskNode → PoolValue → (ℕ → List RefField) → Type 0
Placement fields nodes pool sources = (f : FilledField) → Contains fields f → OwnersSatisfy nodes pool sources f

-- the pool has for a task exactly the chunks of its heap
abbrev pub Owns : PoolValue → ℕ → List ChunkValue → Type 0
Owns pool t ks = (number : ℕ) → (owner_of pool number ≡ Some t) ↔ (has_chunk ks number ≡ true)
