-- What stands in a page before the settings and the entries of its run, and after them.
use Rattle.std.specs.Prelude.{ℕ, List, [], ◌∷◌, ◌++◌, codes}
use Rattle.std.specs.List.{flat_map}
use Rattle.text_lines.specs.Lines.{lines_of}
use Rattle.trace_input.specs.Cut.{lines_above}
use Rattle.quoted_text.specs.Guarded.{guarded}
use Rattle.page_text.specs.Text.{before, after}

-- the lines of an input that stand before the trace line, and one more without a byte
unfoldable pub program_lines : List ℕ → List ℕ
program_lines input = flat_map (λ l. guarded l ++ 44 ∷ []) (lines_above (lines_of input)) ++ codes "\"\""

unfoldable pub title_line : List ℕ → List ℕ
title_line title = codes "{\"run\":1,\"title\":" ++ guarded title

unfoldable pub listed : List ℕ → List ℕ
listed input = codes ",\n\"program\":[" ++ program_lines input

-- what the data begins with: the title and the program's lines
unfoldable pub beginning : List ℕ → List ℕ → List ℕ
beginning title input = title_line title ++ listed input

-- what stands before the data of a run is the same in every page, and so is what stands after it
unfoldable pub frame_head : List ℕ → List ℕ → List ℕ
frame_head title input = before ++ beginning title input

unfoldable pub tail : List ℕ
tail = after
