-- The values of a command's matches.
use Rattle.std.specs.Prelude.{◌≡◌, ◌⊎◌, ℕ, List, Option, Some, None, ⊤, codes}
use Rattle.command_line.specs.Common.{size_limit, chunk_limit, fuel_limit, words_limit, worker_limit, IsUnsignedIn, Row, Text, one_of}

-- the argument gives a number from `least` to `most`
abbrev pub ArgumentIsNumber : Text → ℕ → ℕ → List Row → Type 0
ArgumentIsNumber id least most rows = (t : Text) × (one_of id rows ≡ Some t) × IsUnsignedIn least most t

-- the flag is set or isn't
abbrev pub HasFlag : Text → List Row → Type 0
HasFlag id rows = (one_of id rows ≡ Some (codes "true")) ⊎ (one_of id rows ≡ Some (codes "false"))

-- the matches of `races` and `image` have all numbers, within their ranges
pub record HasSettings (rows : List Row) : Type 0 where
  pub workers : ArgumentIsNumber (codes "workers") 1 worker_limit rows
  pub fuel : ArgumentIsNumber (codes "fuel") 1 fuel_limit rows
  pub chunks : ArgumentIsNumber (codes "chunks") 2 chunk_limit rows
  pub leaf : ArgumentIsNumber (codes "leaf") 16 words_limit rows
  pub inner : ArgumentIsNumber (codes "inner") 16 words_limit rows

-- those of a command that runs a program have these and both flags
pub record HasOptions (rows : List Row) : Type 0 where
  pub settings : HasSettings rows
  pub report : HasFlag (codes "report") rows
  pub trace : HasFlag (codes "trace") rows

-- the matches of `make` have both numbers, and its flag
pub record FitsMake (rows : List Row) : Type 0 where
  pub seed : ArgumentIsNumber (codes "SEED") 0 4294967295 rows
  pub size : ArgumentIsNumber (codes "SIZE") 1 size_limit rows
  pub run : HasFlag (codes "run") rows

-- the matches of a command, by its name
pub record FitsCommand (name : Text) (rows : List Row) : Type 0 where
  pub run : name ≡ codes "run" → HasOptions rows
  pub replay : name ≡ codes "replay" → HasOptions rows
  pub model : name ≡ codes "model" → HasOptions rows
  pub races : name ≡ codes "races" → HasSettings rows
  pub image : name ≡ codes "image" → HasSettings rows
  pub make : name ≡ codes "make" → FitsMake rows

-- the same for the command that was met, if one was
abbrev pub FitsFound : Option (Text × List Row) → Type 0
FitsFound None = ⊤
FitsFound (Some p) = FitsCommand p.0 p.1
