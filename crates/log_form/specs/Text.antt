-- The lines of a file.
use Rattle.std.specs.Prelude.{ℕ, ◌==◌, Bool, List, [], ◌∷◌, map}
use Rattle.std.specs.List.{before_first}
use Rattle.text_lines.specs.Lines.{lines_of}

abbrev pub all_but_last : {A : Type 0} → List A → List A
all_but_last [] = []
all_but_last (x ∷ []) = []
all_but_last (x ∷ y ∷ ys) = x ∷ all_but_last (y ∷ ys)

-- a file's text ends at the first zero byte
abbrev pub is_zero : ℕ → Bool
is_zero c = c == 0

abbrev pub text_of : List ℕ → List ℕ
text_of file = before_first is_zero file

abbrev pub texts_of : List (List ℕ) → List (List ℕ)
texts_of files = map text_of files

-- each line ends with a line feed: what stands behind the last one is no line
abbrev pub lines_in : List ℕ → List (List ℕ)
lines_in text = all_but_last (lines_of text)
