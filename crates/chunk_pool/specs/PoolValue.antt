-- The pool as callers see it: the slot of each chunk's number.
use Rattle.std.specs.Prelude.{◌≡◌, ◌≢◌, ℕ, ◌+◌, ◌<◌, ◌≤◌, ◌^◌, All, Option, Some, None, IfSome, List, [], ◌∷◌, ◌++◌, if◌then◌else◌, length, option_map, slice_index_or}
use Rattle.object_layout.specs.ChunkValue.{ChunkValue}
use Rattle.object_layout.specs.Chunks.{has_chunk, HaveDistinctNumbers}
use Rattle.object_layout.specs.Cell.{chunk_words}
use Rattle.chunk_pool.specs.declared.pool.Slot.{Slot}

-- the limit in units, and for each number from 0 on the slot of its chunk, if it is in use
pub record PoolValue : Type 0 where
  pub limit : ℕ
  pub slots : List (Option Slot)

-- the slot at a number
abbrev pub slot_in : List (Option Slot) → ℕ → Option Slot
slot_in slots number = slice_index_or slots number None

-- the slot of the chunk of a number, if that is in use
abbrev pub slot_at : PoolValue → ℕ → Option Slot
slot_at pool number = slot_in pool.slots number

-- the owner of the chunk of a number, if that is in use
abbrev pub owner_of : PoolValue → ℕ → Option ℕ
owner_of pool number = option_map (λ h. h.owner) (slot_at pool number)

-- the units of the chunk of a number, 0 if that isn't in use
abbrev pub slot_units : Option Slot → ℕ
slot_units None = 0
slot_units (Some h) = h.units

abbrev pub units_in : List (Option Slot) → ℕ
units_in [] = 0
units_in (slot ∷ slots) = slot_units slot + units_in slots

-- the units of all chunks in use together
abbrev pub units_in_use : PoolValue → ℕ
units_in_use pool = units_in pool.slots

-- the limit, and the slot of every other number, are unchanged
pub record KeepsOthers (old new : PoolValue) (number : ℕ) : Type 0 where
  pub limit : new.limit ≡ old.limit
  pub others : (other : ℕ) → other ≢ number → slot_at new other ≡ slot_at old other

-- a number that wasn't in use is now in use for this owner with these units; all else is unchanged
pub record Reserves (old new : PoolValue) (number : ℕ) (slot : Slot) : Type 0 where
  pub was_free : slot_at old number ≡ None
  pub taken : slot_at new number ≡ Some slot
  pub units : units_in_use new ≡ units_in_use old + slot.units
  pub rest : KeepsOthers old new number

-- a chunk of one unit for an owner
abbrev pub one_unit : ℕ → Slot
one_unit owner = record { owner = owner; units = 1 }

-- the numbers of these chunks differ and weren't in use; each is now in use for this owner with one unit; all else is
-- unchanged
pub record AreNumbered (old new : List (Option Slot)) (owner : ℕ) (ks : List ChunkValue) : Type 0 where
  pub were_free : All (λ k. slot_in old k.number ≡ None) ks
  pub apart : HaveDistinctNumbers ks
  pub each : (number : ℕ) → slot_in new number ≡ (if has_chunk ks number then Some (one_unit owner) else slot_in old number)
  pub units : units_in new ≡ units_in old + length ks

-- an empty chunk of one unit
pub record IsBlank (k : ChunkValue) : Type 0 where
  pub size : k.size ≡ chunk_words
  pub cells : k.cells ≡ []

-- count empty chunks of one unit were numbered and appended to a list
pub record NumbersBehind (old new : List (Option Slot)) (owner number : ℕ) (was is : List ChunkValue) : Type 0 where
  pub chunks : List ChunkValue
  pub behind : is ≡ was ++ chunks
  pub count : length chunks ≡ number
  pub blank : All IsBlank chunks
  pub numbered : AreNumbered old new owner chunks

-- count empty chunks of one unit were taken for an owner and appended to a list
pub record TakesAll (old new : PoolValue) (owner count : ℕ) (was is : List ChunkValue) : Type 0 where
  pub limit : new.limit ≡ old.limit
  pub numbers : NumbersBehind old.slots new.slots owner count was is

-- the number is no longer in use; all else is unchanged
pub record Releases (old new : PoolValue) (number : ℕ) : Type 0 where
  pub free : slot_at new number ≡ None
  pub units : units_in_use new + slot_units (slot_at old number) ≡ units_in_use old
  pub rest : KeepsOthers old new number

-- the chunk has another owner; all else is unchanged
pub record Relabels (old new : PoolValue) (number owner : ℕ) : Type 0 where
  pub relabelled : IfSome (slot_at old number) (λ h. slot_at new number ≡ Some (record h { owner = owner }))
  pub units : units_in_use new ≡ units_in_use old
  pub rest : KeepsOthers old new number

-- each number in use fits in 32 bits, and its chunk has at least one unit
abbrev pub AreChunks : List (Option Slot) → Type 0
AreChunks slots = (number : ℕ) (h : Slot) → slot_in slots number ≡ Some h → (number < 2 ^ 32) × (0 < h.units)

-- the units in use are counted, and within the limit
pub record UnitsAreCounted (limit used : ℕ) (slots : List (Option Slot)) : Type 0 where
  pub small : limit < 2 ^ 22
  pub counted : used ≡ units_in slots
  pub within : used ≤ limit
  pub chunks : AreChunks slots
