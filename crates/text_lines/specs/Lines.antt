-- Lines and words of a text.
use Rattle.std.specs.Prelude.{ℕ, ◌==◌, ◌||◌, Bool, true, false, List, [], ◌∷◌, filter, if◌then◌else◌}
use Rattle.std.specs.List.{slice_split}

-- the most bytes of a text that is read
abbrev pub most_bytes : ℕ
most_bytes = 16777216

-- a text split at its line feeds
abbrev pub lines_of : List ℕ → List (List ℕ)
lines_of text = slice_split (λ c. c == 10) text

-- no line is left
abbrev pub is_last : List (List ℕ) → Bool
is_last [] = true
is_last (l ∷ ls) = false

-- space, tab and carriage return
abbrev pub is_blank : ℕ → Bool
is_blank c = (c == 32) || (c == 9) || (c == 13)

abbrev pub is_word : List ℕ → Bool
is_word [] = false
is_word (c ∷ cs) = true

-- the maximal runs of non-blank bytes
abbrev pub runs_of : List ℕ → List (List ℕ)
runs_of line = filter is_word (slice_split is_blank line)

-- a word that begins with `#` begins a comment
abbrev pub begins_comment : List ℕ → Bool
begins_comment [] = false
begins_comment (c ∷ cs) = c == 35

abbrev pub before_comment : List (List ℕ) → List (List ℕ)
before_comment [] = []
before_comment (w ∷ ws) = if begins_comment w then [] else w ∷ before_comment ws

-- the words of a line
abbrev pub words_of : List ℕ → List (List ℕ)
words_of line = before_comment (runs_of line)
