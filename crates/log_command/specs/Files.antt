-- The files that a call reads.
use Rattle.std.specs.Prelude.{◌≡◌, ◌<◌, ◌+◌, ◌^◌, ℕ, List, [], Some, map, length, slice_index_or}
use Rattle.whole_call.specs.Input.{Reads, ReadsUpTo, SourceState, IsInputOf, HasTaken}
use Rattle.log_form.specs.Text.{texts_of}

-- the most bytes of a file that are read, but for one
abbrev pub most_file_bytes : ℕ
most_file_bytes = 2 ^ 62

-- the file of number k
abbrev pub reads_file : List (List ℕ) → ℕ → Reads
reads_file names k = ReadsUpTo most_file_bytes (Some (slice_index_or names k []))

-- inputs of the first n files
pub record AreFirstInputs (names : List (List ℕ)) (n : ℕ) (before : SourceState) (inputs : List (List ℕ)) : Type 0 where
  pub count : length inputs ≡ n
  pub each : (k : ℕ) → k < n → IsInputOf (reads_file names k) before (slice_index_or inputs k [])

-- an input of each file
abbrev pub AreInputsOf : List (List ℕ) → SourceState → List (List ℕ) → Type 0
AreInputsOf names before inputs = AreFirstInputs names (length names) before inputs

-- the first n files were taken, each whole; with none the source stays as it was
pub record HasTakenFirst (names : List (List ℕ)) (n : ℕ) (before after : SourceState) : Type 0 where
  pub none : n ≡ 0 → after.left ≡ before.left
  pub last : (k : ℕ) → n ≡ k + 1 → HasTaken (reads_file names k) before after

abbrev pub HasTakenFiles : List (List ℕ) → SourceState → SourceState → Type 0
HasTakenFiles names before after = HasTakenFirst names (length names) before after

-- the texts of the first n files were read
pub record HasReadFirst (names : List (List ℕ)) (n : ℕ) (before after : SourceState) (texts : List (List ℕ)) : Type 0 where
  pub inputs : List (List ℕ)
  pub are : AreFirstInputs names n before inputs
  pub texts_are : texts ≡ texts_of inputs
  pub taken : HasTakenFirst names n before after

abbrev pub HasReadFiles : List (List ℕ) → SourceState → SourceState → List (List ℕ) → Type 0
HasReadFiles names before after texts = HasReadFirst names (length names) before after texts
