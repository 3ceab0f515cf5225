-- Which bytes an input has, how many of them are read, and what was written.
use Rattle.std.specs.Prelude.{◌≡◌, ℕ, ◌+◌, List, ◌++◌, Option, Some, None, length, take}
use Rattle.io_traits.specs.Told.{GivesBytes, with_more}

-- the bytes of the file, or, if none is named, those that the source has left
abbrev pub source_bytes : Option (List ℕ) → (List ℕ → Option (List ℕ)) → Option (List ℕ) → Option (List ℕ)
source_bytes left named None = left
source_bytes left named (Some file) = named file

-- the input: all of the bytes, or the first limit + 1 of them
abbrev pub input_of : ℕ → List ℕ → List ℕ
input_of limit whole = take (limit + 1) whole

-- a call of a source gave n more bytes
abbrev pub Grows : Option (List ℕ) → Option (List ℕ) → List ℕ → List ℕ → ℕ → Type 0
Grows left after old new count = (given : List ℕ) × (new ≡ old ++ given) × (length given ≡ count) × GivesBytes left after given

-- a prefix of these bytes was written
abbrev pub WroteSome : Option (List ℕ) → Option (List ℕ) → List ℕ → Type 0
WroteSome before after bytes = (count : ℕ) × (after ≡ with_more before (take count bytes))
