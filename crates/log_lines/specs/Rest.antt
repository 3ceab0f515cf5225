-- What is left of a line while it is read.
use Rattle.std.specs.Prelude.{◌≡◌, ℕ, Result, Ok, Err, List, [], ◌∷◌}
use Rattle.log_lines.specs.declared.cause.LogCause.{LogCause}
use Rattle.log_lines.specs.Words.{words_of}

-- the words behind a first one: none where the line ended with it, else those behind the space
abbrev pub operands : List ℕ → List (List ℕ)
operands [] = []
operands (space ∷ rest) = words_of rest

-- what a function returned, seen by view, is what reading gives
abbrev pub ReadsAs : {X Y : Type 0} → (X → Y) → Result X LogCause → Result Y LogCause → Type 0
ReadsAs view (Ok x) read = read ≡ Ok (view x)
ReadsAs view (Err e) read = read ≡ Err e
