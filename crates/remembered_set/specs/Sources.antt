-- The down-pointers that a heap remembers.
use Rattle.std.specs.Prelude.{◌≡◌, ℕ, Bool, false, Option, Some, None, List, [], ◌∷◌, ◌++◌, ◌==◌, ◌&&◌, if◌then◌else◌, fold, filter, not}
use Rattle.std.specs.List.{list_any}
use Rattle.object_layout.specs.ChunkValue.{ChunkValue}
pub use Rattle.object_layout.specs.Chunks.{has_chunk}
use Rattle.remembered_set.specs.declared.remembered.RefField.{RefField}

-- the sources in the order in which they were noted; the spare capacity of its list and its table; and how many chunk
-- numbers a lift can tell apart
pub record RememberedValue : Type 0 where
  pub sources : List RefField
  pub slots : ℕ
  pub spare : ℕ
  pub numbers : ℕ

-- those of a table, if there is one
abbrev pub notes_in : Option RememberedValue → RememberedValue
notes_in None = record { sources = []; slots = 0; spare = 0; numbers = 0 }
notes_in (Some n) = n

-- one field of one object
abbrev pub same_source : RefField → RefField → Bool
same_source a b = a.object.chunk == b.object.chunk && a.object.offset == b.object.offset && a.field == b.field

abbrev pub has_source : List RefField → RefField → Bool
has_source xs s = list_any (same_source s) xs

-- the sources with one more noted, each once
abbrev pub with_noted_source : List RefField → RefField → List RefField
with_noted_source xs s = if has_source xs s then xs else xs ++ s ∷ []

-- these are distinct
abbrev pub StandOnce : List RefField → Type 0
StandOnce [] = Unit {0}
StandOnce (s ∷ ss) = (has_source ss s ≡ false) × StandOnce ss

-- of these sources, those whose object isn't in one of these chunks
abbrev pub outside : List ChunkValue → List RefField → List RefField
outside ks xs = filter (λ s. not (has_chunk ks s.object.chunk)) xs

-- the sources with those of another set noted, except those whose object is in these chunks
abbrev pub lifted : List RefField → List RefField → List ChunkValue → List RefField
lifted xs ys ks = fold with_noted_source xs (outside ks ys)

-- a table contains exactly these sources, each once
pub record KnowsJust (xs : List RefField) (knows : RefField → Bool) : Type 0 where
  pub known : (s : RefField) → knows s ≡ has_source xs s
  pub once : StandOnce xs
