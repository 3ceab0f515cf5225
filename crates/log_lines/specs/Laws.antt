-- What holds of all lines.
use Rattle.std.specs.Prelude.{◌≡◌, ℕ, List, Ok, IfOk}
use Rattle.log_lines.specs.declared.line.LogLine.{LogLine}
use Rattle.log_lines.specs.Grammar.{line_of}
use Rattle.log_lines.specs.Limits.{IsLine}
use Rattle.log_lines.specs.Writing.{line_bytes}

-- what is read is within the limits
abbrev pub LinesAreWithinLimits : Type 0
LinesAreWithinLimits = (line : List ℕ) → IfOk (line_of line) IsLine

-- a line that is written and read again is that line
abbrev pub LinesAreReadAgain : Type 0
LinesAreReadAgain = (l : LogLine) → IsLine l → line_of (line_bytes l) ≡ Ok l
