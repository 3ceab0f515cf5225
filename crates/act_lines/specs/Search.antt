-- How far a search for the lines of acts has come.
use Rattle.std.specs.Prelude.{◌≡◌, ◌<◌, ◌≤◌, ℕ, Some, List, length, slice_get}
use Rattle.act_lines.specs.declared.line.ActLine.{ActLine}
use Rattle.act_lines.specs.declared.find.Search.{Search}

-- it has found the lines of the numbers that are among these lines of acts
pub record HasFound (numbers : List ℕ) (seen : List ActLine) (search : Search) : Type 0 where
  pub few : length search.found ≤ length numbers
  pub are : (k n : ℕ) → k < length search.found → slice_get numbers k ≡ Some n → (n < length seen) × (slice_get search.found k ≡ Some (slice_get seen n))
  pub later : (k n : ℕ) → length search.found ≤ k → slice_get numbers k ≡ Some n → length seen ≤ n
  pub count : length search.found < length numbers → search.count ≡ length seen

abbrev pub IsSearch : List ℕ → Search → Type 0
IsSearch numbers search = (seen : List ActLine) × HasFound numbers seen search
