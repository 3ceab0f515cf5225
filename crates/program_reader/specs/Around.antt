-- What the lines around a line say about it. The lines above a line are given nearest first.
use Rattle.std.specs.Prelude.{ℕ, ◌+◌, Bool, true, false, Option, Some, None, List, [], ◌∷◌, length, if◌then◌else◌}
use Rattle.program_reader.specs.declared.head.Verb.{Verb}
use Rattle.program_reader.specs.declared.head.Verb.TheVariants.{Pfor}
use Rattle.program_reader.specs.declared.head.Head.{Head}
use Rattle.program_reader.specs.declared.head.Head.TheVariants.{Begin, End, Label, Order}
use Rattle.program_reader.specs.declared.sense.Outline.{Outline}
use Rattle.program_reader.specs.declared.labels.Labels.{Labels}
use Rattle.text_lines.specs.Lines.{lines_of, words_of}
use Rattle.program_reader.specs.Names.{NotedName, with_name}
use Rattle.program_reader.specs.Head.{head_of_words, operands_of}
use Rattle.program_reader.specs.Sense.{only_name}

abbrev pub head_of_line : List ℕ → Head
head_of_line line = head_of_words (words_of line)

abbrev pub operands_of_line : List ℕ → List (List ℕ)
operands_of_line line = operands_of (words_of line)

-- ---- whether a function is open

abbrev pub is_open_after : Head → Bool → Bool
is_open_after Begin b = true
is_open_after End b = false
is_open_after _ b = b

-- the last `fn` or `end` above is `fn`
abbrev pub is_inside : List (List ℕ) → Bool
is_inside [] = false
is_inside (l ∷ above) = is_open_after (head_of_line l) (is_inside above)

-- ---- the names of functions and of loops, each with the line on which it first occurs

abbrev pub noted_if : List NotedName → Option (List ℕ) → ℕ → List NotedName
noted_if es (Some name) number = with_name es name number
noted_if es None number = es

-- the name of a line whose words are `fn` and a name
abbrev pub begun_name : Head → List (List ℕ) → Option (List ℕ)
begun_name Begin ws = only_name ws
begun_name _ ws = None

-- the name of a line whose words are `pfor` and a name
abbrev pub looped_by : Verb → List (List ℕ) → Option (List ℕ)
looped_by Pfor ws = only_name ws
looped_by _ ws = None

abbrev pub looped_name : Head → List (List ℕ) → Option (List ℕ)
looped_name (Order v) ws = looped_by v ws
looped_name _ ws = None

-- adds what the line of this number names
abbrev pub outline_line : ℕ → Outline → List ℕ → Outline
outline_line number o line = record {
  functions = noted_if o.functions (begun_name (head_of_line line) (operands_of_line line)) number;
  loops = noted_if o.loops (looped_name (head_of_line line) (operands_of_line line)) number;
}

abbrev pub no_names : Outline
no_names = record { functions = []; loops = [] }

-- the names of the lines above
abbrev pub outline_above : List (List ℕ) → Outline
outline_above [] = no_names
outline_above (l ∷ above) = outline_line (length above + 1) (outline_above above) l

-- the names so far, and those of the lines from this number on
abbrev pub outline_onto : ℕ → Outline → List (List ℕ) → Outline
outline_onto number o [] = o
outline_onto number o (l ∷ ls) = outline_onto (number + 1) (outline_line number o l) ls

-- the names of a text
abbrev pub outline_of : List ℕ → Outline
outline_of text = outline_onto 1 no_names (lines_of text)

-- ---- the labels of a function

abbrev pub no_labels : Labels
no_labels = record { entries = []; next = 0 }

-- a label is noted with the number of the instructions before it, which is the index of the next one
abbrev pub label_line : Head → List (List ℕ) → Labels → Labels
label_line Label ws s = record s { entries = noted_if s.entries (only_name ws) s.next }
label_line (Order v) ws s = record s { next = s.next + 1 }
label_line _ ws s = s

abbrev pub labels_after : Head → List (List ℕ) → Labels → Labels
labels_after Begin ws s = no_labels
labels_after h ws s = label_line h ws s

-- the labels between the last `fn` above and here
abbrev pub labels_above : List (List ℕ) → Labels
labels_above [] = no_labels
labels_above (l ∷ above) = labels_after (head_of_line l) (operands_of_line l) (labels_above above)

abbrev pub ends_body : Head → Bool
ends_body Begin = true
ends_body End = true
ends_body _ = false

-- the labels so far, and those of the lines up to the next `end` or `fn`
abbrev pub labels_onto : Labels → List (List ℕ) → Labels
labels_onto s [] = s
labels_onto s (l ∷ ls) = if ends_body (head_of_line l) then s else labels_onto (label_line (head_of_line l) (operands_of_line l) s) ls

-- ---- the numbers of functions and of instructions above

abbrev pub begins : Head → ℕ
begins Begin = 1
begins _ = 0

abbrev pub begun_above : List (List ℕ) → ℕ
begun_above [] = 0
begun_above (l ∷ above) = begun_above above + begins (head_of_line l)

abbrev pub orders : Head → ℕ
orders (Order v) = 1
orders _ = 0

abbrev pub orders_above : List (List ℕ) → ℕ
orders_above [] = 0
orders_above (l ∷ above) = orders_above above + orders (head_of_line l)
