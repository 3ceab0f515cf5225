-- What may have been meant.
use Rattle.std.specs.Prelude.{ℕ, Option, Some, None, List, [], ◌∷◌, codes, map, take}
use Rattle.near_words.specs.Near.{nearest}
use Rattle.program_reader.specs.Names.{NotedName}
use Rattle.text_faults.specs.declared.fault.Wrong.{Wrong}
use Rattle.text_faults.specs.declared.fault.Wrong.TheVariants.{OutsideFunction, UnknownWord, UnknownFunction, UnknownLabel}
use Rattle.text_faults.specs.declared.walk.LinesAbove.{LinesAbove}

-- the words that a line in a function begins with
abbrev pub line_words : List (List ℕ)
line_words =
    codes "set" ∷ codes "mov" ∷ codes "add" ∷ codes "sub" ∷ codes "mul" ∷ codes "div" ∷ codes "rem" ∷ codes "lt" ∷ codes "eq" ∷
    codes "movr" ∷ codes "nil" ∷ codes "same" ∷ codes "newm" ∷ codes "pack" ∷ codes "getr" ∷ codes "geti" ∷ codes "putr" ∷ codes "puti" ∷
    codes "cntr" ∷ codes "cnti" ∷ codes "freeze" ∷ codes "cas" ∷
    codes "jmp" ∷ codes "jz" ∷ codes "call" ∷ codes "par" ∷ codes "pfor" ∷ codes "ret" ∷ codes "out" ∷
    codes "lab" ∷ codes "end" ∷ codes "fn" ∷ []

-- at most the first hundred names are compared
abbrev pub first_names : List NotedName → List (List ℕ)
first_names es = map (λ e. e.name) (take 100 es)

-- the word that may have been meant in place of an unknown one
abbrev pub meant : LinesAbove → Wrong → List ℕ → Option (List ℕ)
meant w UnknownWord word = nearest word line_words
meant w OutsideFunction word = nearest word (codes "fn" ∷ [])
meant w UnknownFunction word = nearest word (first_names w.outline.functions)
meant w UnknownLabel word = nearest word (first_names w.labels.all.entries)
meant w _ word = None
