-- An input of a program and a trace: where the program ends and the trace begins.
use Rattle.std.specs.Prelude.{◌≡◌, ℕ, ◌+◌, Bool, false, Option, Some, None, List, [], ◌∷◌, ◌++◌, length, codes, if◌then◌else◌}
use Rattle.std.specs.List.{flat_map}
use Rattle.std.specs.Str.{bytes_eq}
use Rattle.text_lines.specs.Lines.{lines_of, words_of}

abbrev pub begins_trace : List (List ℕ) → Bool
begins_trace [] = false
begins_trace (w ∷ ws) = bytes_eq w (codes "trace")

-- a line whose first word is `trace`
abbrev pub is_trace_line : List ℕ → Bool
is_trace_line line = begins_trace (words_of line)

-- the lines before the first such line
abbrev pub lines_above : List (List ℕ) → List (List ℕ)
lines_above [] = []
lines_above (l ∷ ls) = if is_trace_line l then [] else l ∷ lines_above ls

-- that line, and those after it
abbrev pub trace_lines : List (List ℕ) → List (List ℕ)
trace_lines [] = []
trace_lines (l ∷ ls) = if is_trace_line l then l ∷ ls else trace_lines ls

-- lines as bytes, each with its line feed
abbrev pub with_feeds : List (List ℕ) → List ℕ
with_feeds ls = flat_map (λ l. l ++ 10 ∷ []) ls

-- the bytes before the trace line; all if there is none
abbrev pub bytes_above : List ℕ → List (List ℕ) → List ℕ
bytes_above input [] = input
bytes_above input (l ∷ ls) = with_feeds (lines_above (lines_of input))

-- the program's part of an input
abbrev pub program_part : List ℕ → List ℕ
program_part input = bytes_above input (trace_lines (lines_of input))

-- the number of the trace line
abbrev pub trace_number : List ℕ → ℕ
trace_number input = length (lines_above (lines_of input)) + 1

-- the bytes from the trace line on, and its number; None if there is no such line
abbrev pub CutsTrace : List ℕ → Option (ℕ × List ℕ) → Type 0
CutsTrace input None = trace_lines (lines_of input) ≡ []
CutsTrace input (Some t) = (trace_lines (lines_of input) ≡ lines_of t.1) × (t.0 ≡ trace_number input)
