-- The layout of the objects of a heap in its chunks.
use Rattle.std.specs.Prelude.{◌≡◌, ◌⊎◌, ◌&&◌, ◌==◌, ◌+◌, ◌*◌, ◌≤◌, ℕ, zero, suc, true, false, List, [], ◌∷◌, length, map, filter}
use Rattle.std.specs.List.{IsDistinct}
use Rattle.refinement.specs.Common.{is_empty, units, Located, chunk_words}
use Rattle.refinement.specs.Memory.{Chunk, In, objects_of_chunks}

-- the words of an object: its header and its name, its references and its numbers
abbrev pub words : Located → ℕ
words o = 2 + length o.refs + length o.ints

-- two objects don't overlap: they are in two chunks, or one ends before the other begins
abbrev pub DontOverlap : Located → Located → Type 0
DontOverlap o q = (o.at.chunk ≡ q.at.chunk → ⊥) ⊎ ((o.at.offset + words o ≤ q.at.offset) ⊎ (q.at.offset + words q ≤ o.at.offset))

-- a large chunk holds one object, for which it has exactly the units, or is still empty
abbrev pub HoldsLarge : Chunk → Type 0
HoldsLarge k = (k.objects ≡ []) ⊎ ((o : Located) × (k.objects ≡ o ∷ []) × (o.at.offset ≡ 0) × (k.units ≡ units (words o)))

-- the large chunks that are still empty
abbrev pub reserved_chunks : List Chunk → List Chunk
reserved_chunks ks = filter (λ k. k.large && is_empty k.objects) ks

-- one of n units, or none
abbrev pub reserved_units : ℕ → List ℕ
reserved_units zero = []
reserved_units (suc n) = suc n ∷ []

-- the chunks of a heap for which this many units are reserved
pub record AreLaidOut (ks : List Chunk) (spare : ℕ) : Type 0 where
  -- numbers are distinct
  pub numbers : IsDistinct (λ a b. a == b) (map (λ k. k.number) ks)
  -- each object is in its chunk with its own words, and overlaps no other
  pub within : (k : Chunk) (o : Located) → In ks k → In k.objects o → o.at.offset + words o ≤ chunk_words * k.units
  pub apart : (o q : Located) → In (objects_of_chunks ks) o → In (objects_of_chunks ks) q → (o ≡ q) ⊎ DontOverlap o q
  pub small : (k : Chunk) → In ks k → k.large ≡ false → k.units ≡ 1
  pub large : (k : Chunk) → In ks k → k.large ≡ true → HoldsLarge k
  pub reserved : map (λ k. k.units) (reserved_chunks ks) ≡ reserved_units spare
