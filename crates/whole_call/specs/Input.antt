-- The input of a call: whose bytes it is, the most bytes read, and what is left of them.
use Rattle.std.specs.Prelude.{◌≡◌, ◌≤◌, ◌+◌, ℕ, List, [], Option, Some, length, take, drop}
use Rattle.read_write_all.specs.Bytes.{source_bytes}

-- a call reads nothing; or a file, or, if none is named, standard input, up to one byte past a limit
pub data Reads : Type 0 where
  ReadsNothing : Reads
  ReadsUpTo : ℕ → Option (List ℕ) → Reads

-- a source at one time: the bytes left and those of each name, if it knows them, and its count of faults
pub record SourceState : Type 0 where
  pub left : Option (List ℕ)
  pub named : List ℕ → Option (List ℕ)
  pub faults : ℕ

-- the most bytes read
abbrev pub most_of : Reads → ℕ
most_of ReadsNothing = 0
most_of (ReadsUpTo limit file) = limit + 1

-- all bytes of what is read, if the source knows them
abbrev pub bytes_for : Reads → SourceState → Option (List ℕ)
bytes_for ReadsNothing before = Some []
bytes_for (ReadsUpTo limit file) before = source_bytes before.left before.named file

-- an input of the call: within the limit, and, if the source knows its bytes, the first of these
pub record IsInputOf (reads : Reads) (before : SourceState) (input : List ℕ) : Type 0 where
  pub within : length input ≤ most_of reads
  pub first : (whole : List ℕ) → bytes_for reads before ≡ Some whole → input ≡ take (most_of reads) whole

-- all of it was taken from the source; a source that isn't read is unchanged
abbrev pub HasTaken : Reads → SourceState → SourceState → Type 0
HasTaken ReadsNothing before after = after.left ≡ before.left
HasTaken (ReadsUpTo limit file) before after = (whole : List ℕ) → source_bytes before.left before.named file ≡ Some whole → after.left ≡ Some (drop (limit + 1) whole)

-- this was read
pub record HasRead (reads : Reads) (before after : SourceState) (input : List ℕ) : Type 0 where
  pub is : IsInputOf reads before input
  pub taken : HasTaken reads before after
