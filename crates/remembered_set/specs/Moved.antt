-- What the remembered fields hold, and how they change when objects are moved.
use Rattle.std.specs.Prelude.{ℕ, ◌+◌, ◌*◌, ◌^◌, ◌<◌, Bool, List, [], ◌∷◌, ◌++◌, if◌then◌else◌, Option, Some, None, length, slice_index_or, unwrap_or}
use Rattle.std.specs.List.{AllByRecursion}
use Rattle.object_layout.specs.declared.word.Addr.{Addr}
use Rattle.object_layout.specs.ChunkValue.{ChunkValue}
pub use Rattle.object_layout.specs.Chunks.{same_address}
use Rattle.object_layout.specs.Cell.{chunk_words}
use Rattle.remembered_set.specs.declared.remembered.RefField.{RefField}
use Rattle.remembered_set.specs.Sources.{has_chunk}

-- a reference, if the number of its chunk passes a test
abbrev pub into_by : (ℕ → Bool) → Option Addr → List Addr
into_by test None = []
into_by test (Some a) = if test a.chunk then a ∷ [] else []

-- a reference, if it points into these chunks
abbrev pub into : List ChunkValue → Option Addr → List Addr
into ks r = into_by (has_chunk ks) r

-- an address as one number, in the order of addresses
abbrev pub address_key : Addr → ℕ
address_key a = a.chunk * 2 ^ 32 + a.offset

-- the new address of the object that was moved from this one, if any
abbrev pub new_of : List (Addr × Addr) → Addr → Option Addr
new_of [] a = None
new_of (m ∷ ms) a = if same_address m.0 a then Some m.1 else new_of ms a

-- the same for a reference
abbrev pub new_reference : List (Addr × Addr) → Option Addr → Option Addr
new_reference ms None = None
new_reference ms (Some a) = new_of ms a

-- the old addresses are in ascending order, each once
abbrev pub AreAscending : List (Addr × Addr) → Type 0
AreAscending ms = (i j : ℕ) (d : Addr × Addr) → i < j → j < length ms → address_key (slice_index_or ms i d).0 < address_key (slice_index_or ms j d).0

-- the new addresses are addresses of objects
abbrev pub ArePlaces : List (Addr × Addr) → Type 0
ArePlaces ms = AllByRecursion (λ m. m.1.offset < chunk_words) ms

module _ {S : Type 0} (refs_at : S → Addr → List (Option Addr)) where
  -- each source is a field of an object
  abbrev pub AreFields : S → List RefField → Type 0
  AreFields w xs = AllByRecursion (λ s. s.field < length (refs_at w s.object)) xs

  -- what a source holds
  abbrev pub target_of : S → RefField → Option Addr
  target_of w s = slice_index_or (refs_at w s.object) s.field None

  -- of what these sources hold, the references into these chunks
  abbrev pub targets_of : S → List ChunkValue → List RefField → List Addr
  targets_of w ks [] = []
  targets_of w ks (s ∷ ss) = into ks (target_of w s) ++ targets_of w ks ss

  module _ (with_ref_at : S → Addr → ℕ → Option Addr → S) where
    -- the field written, if there is a new address
    abbrev pub written : S → RefField → Option Addr → S
    written w s None = w
    written w s (Some a) = with_ref_at w s.object s.field (Some a)

    -- a source that holds an old address is updated to the new one; any other is unchanged
    abbrev pub redirected : List (Addr × Addr) → S → RefField → S
    redirected ms w s = written w s (new_reference ms (target_of w s))

-- a reference updated to its object's new address, if that was moved
abbrev pub led_by : List (Addr × Addr) → Option Addr → Option Addr
led_by ms None = None
led_by ms (Some a) = Some (unwrap_or (new_of ms a) a)
