-- The lines that are shown of faults.
use Rattle.std.specs.Prelude.{ℕ, List, [], ◌∷◌, ◌++◌, Option, Some, None, codes}
use Rattle.std.specs.List.{flat_map}
use Rattle.std.specs.Fmt.{decimal}
use Rattle.quoted_text.specs.Quoted.{quoted}
use Rattle.text_faults.specs.declared.fault.Fault.{Fault}
use Rattle.fault_lines.specs.Expected.{expected}

-- line and column
abbrev pub line_and_column : ℕ → ℕ → List ℕ
line_and_column line column = codes "line " ++ decimal line ++ codes ", column " ++ decimal column ++ codes ": "

-- the word, if there is one
abbrev pub word_text : List ℕ → List ℕ
word_text [] = []
word_text (c ∷ cs) = quoted (c ∷ cs) ++ codes ": "

-- the word that may have been meant
abbrev pub near_text : Option (List ℕ) → List ℕ
near_text None = []
near_text (Some w) = codes "; did you mean " ++ quoted w ++ codes "?"

-- where a fault is, and what is expected there
abbrev pub where_text : Fault → List ℕ
where_text f = line_and_column f.line f.column ++ word_text f.word

abbrev pub what_text : Fault → List ℕ
what_text f = codes "expected " ++ expected f.wrong ++ near_text f.near ++ 10 ∷ []

-- the line of a fault
abbrev pub fault_line : Fault → List ℕ
fault_line f = where_text f ++ what_text f

-- a line for each fault
abbrev pub faults_text : List Fault → List ℕ
faults_text fs = flat_map fault_line fs
