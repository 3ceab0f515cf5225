-- What is shown of the races of a run.
use Rattle.std.specs.Prelude.{ℕ, ◌-◌, ◌==◌, ◌&&◌, ◌||◌, not, Bool, true, false, List, [], ◌∷◌, ◌++◌, length, codes, unwrap_or, slice_get, if◌then◌else◌}
use Rattle.std.specs.List.{flat_map}
use Rattle.std.specs.Fmt.{decimal}
use Rattle.std.specs.Str.{bytes_eq}
use Rattle.text_lines.specs.Lines.{words_of}
use Rattle.race_report.specs.declared.data.Race.{Race}
use Rattle.race_report.specs.Text.{kind_word}
use Rattle.race_groups.specs.declared.group.RaceGroup.{RaceGroup}

-- THE SOURCE

-- a line of the text, by its number from 1
abbrev pub source_line : List (List ℕ) → ℕ → List ℕ
source_line lines number = unwrap_or (slice_get lines (number - 1)) []

abbrev pub is_swap_words : List (List ℕ) → Bool
is_swap_words [] = false
is_swap_words (w ∷ ws) = bytes_eq w (codes "cas")

-- whether a line is a compare and swap
abbrev pub is_swap_line : List ℕ → Bool
is_swap_line line = is_swap_words (words_of line)

abbrev pub spaced_words : List ℕ → List ℕ
spaced_words line = flat_map (λ w. 32 ∷ w) (words_of line)

-- the number of a line, and its words
abbrev pub shown_line : List (List ℕ) → ℕ → List ℕ
shown_line lines number = codes "  " ++ decimal number ++ codes ":" ++ spaced_words (source_line lines number) ++ codes "\n"

-- A GROUP

abbrev pub plural : ℕ → List ℕ
plural n = if n == 1 then [] else codes "s"

abbrev pub on_lines : ℕ → ℕ → List ℕ
on_lines x y = if x == y then codes "line " ++ decimal x ++ codes " twice: " else codes "lines " ++ decimal x ++ codes " and " ++ decimal y ++ codes ": "

abbrev pub head_line : RaceGroup → List ℕ
head_line g = on_lines g.example.first.1 g.example.second.1 ++ decimal g.fields ++ codes " field" ++ plural g.fields ++ codes "\n"

abbrev pub source_of : List (List ℕ) → ℕ → ℕ → List ℕ
source_of lines x y = if x == y then shown_line lines x else shown_line lines x ++ shown_line lines y

-- two compare and swaps never race, but one races with another access
abbrev pub swap_note : List (List ℕ) → ℕ → ℕ → List ℕ
swap_note lines x y =
    if is_swap_line (source_line lines x) || is_swap_line (source_line lines y)
    then codes "  cas races with other accesses; only two cas never race\n"
    else []

abbrev pub field_text : Race → List ℕ
field_text r = kind_word r.is_ref ++ codes " " ++ decimal r.index ++ codes " of object " ++ decimal r.task ++ codes " " ++ decimal r.count

abbrev pub tasks_text : Race → List ℕ
tasks_text r = codes "task " ++ decimal r.first.0 ++ codes " on line " ++ decimal r.first.1 ++ codes ", later task " ++ decimal r.second.0 ++ codes " on line " ++ decimal r.second.1

abbrev pub example_line : Race → List ℕ
example_line r = codes "  example: " ++ field_text r ++ codes ", " ++ tasks_text r ++ codes "\n"

-- its lines with their text
abbrev pub group_place : List (List ℕ) → RaceGroup → List ℕ
group_place lines g = head_line g ++ source_of lines g.example.first.1 g.example.second.1

-- one of its races
abbrev pub group_example : List (List ℕ) → RaceGroup → List ℕ
group_example lines g = example_line g.example ++ swap_note lines g.example.first.1 g.example.second.1

abbrev pub group_text : List (List ℕ) → RaceGroup → List ℕ
group_text lines g = group_place lines g ++ group_example lines g

-- ALL

-- why accesses under a lock that is made of compare and swaps race
abbrev pub lock_note : Bool → ℕ → List ℕ
lock_note swaps count =
    if swaps && not (count == 0)
    then codes "note: only forks and joins put accesses in order, and cas doesn't. So accesses that a lock by cas guards\n      are races: which task gets the lock first differs from schedule to schedule.\n"
    else []

abbrev pub count_line : ℕ → ℕ → List ℕ
count_line races groups = codes "end: races " ++ decimal races ++ codes " on " ++ decimal groups ++ codes " pair" ++ plural groups ++ codes " of lines\n"

-- each group, what compare and swaps mean for them, and the end line with the number of races and that of groups
abbrev pub groups_text : List (List ℕ) → Bool → ℕ → List RaceGroup → List ℕ
groups_text lines swaps races groups = flat_map (group_text lines) groups ++ lock_note swaps races ++ count_line races (length groups)
