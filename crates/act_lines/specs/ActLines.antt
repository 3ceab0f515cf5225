-- The lines of a log that are acts, in the order of its files and their lines.
use Rattle.std.specs.Prelude.{◌+◌, ℕ, Option, None, Result, Ok, Err, List, [], ◌∷◌, ◌++◌, slice_get}
use Rattle.log_lines.specs.declared.cause.LogCause.{LogCause}
use Rattle.log_lines.specs.declared.line.Act.{Act}
use Rattle.log_lines.specs.declared.line.Act.TheVariants as acts
use Rattle.log_lines.specs.declared.line.LogLine.{LogLine}
use Rattle.log_lines.specs.declared.line.LogLine.TheVariants as lines
use Rattle.log_lines.specs.Grammar.{line_of}
use Rattle.log_form.specs.declared.fault.LogPosition.{LogPosition}
use Rattle.log_form.specs.Text.{lines_in}
use Rattle.act_lines.specs.declared.line.ActLine.{ActLine}

abbrev pub site_of : Act → Option ℕ
site_of (acts.Access a) = a.site
site_of (acts.Yield r) = r.site
site_of (acts.Store r) = r.site
site_of _ = None

-- a line that stands here, if it is an act
abbrev pub act_line_at : LogPosition → Result LogLine LogCause → List ActLine
act_line_at at (Ok lines.Version) = []
act_line_at at (Ok (lines.Strand t i)) = []
act_line_at at (Ok (lines.Act act)) = record { at = at; act = act } ∷ []
act_line_at at (Ok (lines.Name site)) = []
act_line_at at (Ok lines.Comment) = []
act_line_at at (Ok lines.End) = []
act_line_at at (Err cause) = []

-- those of a file, from a line on
abbrev pub act_lines_from : ℕ → ℕ → List (List ℕ) → List ActLine
act_lines_from file line [] = []
act_lines_from file line (l ∷ ls) = act_line_at (record { file = file; line = line }) (line_of l) ++ act_lines_from file (line + 1) ls

-- those of the files from one on
abbrev pub act_lines_behind : ℕ → List (List ℕ) → List ActLine
act_lines_behind file [] = []
act_lines_behind file (text ∷ texts) = act_lines_from file 1 (lines_in text) ++ act_lines_behind (file + 1) texts

-- those of a log
abbrev pub act_lines : List (List ℕ) → List ActLine
act_lines texts = act_lines_behind 0 texts

-- the line of an act, by the act's number in the log
abbrev pub act_line : List (List ℕ) → ℕ → Option ActLine
act_line texts n = slice_get (act_lines texts) n
