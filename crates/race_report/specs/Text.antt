-- What is printed about races.
use Rattle.std.specs.Prelude.{ℕ, Bool, true, false, List, [], ◌∷◌, ◌++◌, length, codes}
use Rattle.std.specs.List.{flat_map}
use Rattle.std.specs.Fmt.{decimal}
use Rattle.run_journal.specs.below.run_trace.{spaced}
use Rattle.run_journal.specs.below.run_ledger.{line, end_line}
use Rattle.race_report.specs.declared.data.Race.{Race}

-- a reference field or a number field
abbrev pub kind_word : Bool → List ℕ
kind_word true = codes "ref"
kind_word false = codes "num"

abbrev pub field_words : Race → List (List ℕ)
field_words r = decimal r.task ∷ decimal r.count ∷ kind_word r.is_ref ∷ decimal r.index ∷ []

-- a word, the field, then the tasks and the lines of both accesses
abbrev pub pair_line : List ℕ → Race → List ℕ
pair_line word r =
    line (word ∷ spaced (field_words r) ∷ codes "tasks" ∷ decimal r.first.0 ∷ decimal r.second.0
    ∷ codes "lines" ∷ decimal r.first.1 ∷ decimal r.second.1 ∷ [])

abbrev pub race_line : Race → List ℕ
race_line = pair_line (codes "race")

-- a line for each race, and the end line with their number
abbrev pub races_text : List Race → List ℕ
races_text races = flat_map race_line races ++ end_line (codes "races" ∷ decimal (length races) ∷ [])
