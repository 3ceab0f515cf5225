-- Faults as a JSON value: an array of objects.
use Rattle.std.specs.Prelude.{ℕ, List, [], ◌∷◌, ◌++◌, Option, Some, None, codes, map}
use Rattle.std.specs.List.{flat_map}
use Rattle.json_text.specs.Json.{Json, Members, Number, Word, Array, Object, NoMember, Member, json, values, first_member, more_member}
use Rattle.program_reader.specs.Cause.{text_of_cause}
use Rattle.text_faults.specs.declared.fault.Fault.{Fault}
use Rattle.text_faults.specs.Faults.{cause_of_wrong}
use Rattle.fault_lines.specs.Expected.{expected}

-- what may have been meant, if that is known
abbrev pub near_members : Option (List ℕ) → Members
near_members None = NoMember
near_members (Some w) = Member (codes "near") (Word w) NoMember

-- the cause is the word that `check` writes for it
abbrev pub fault_value : Fault → Json
fault_value f =
    Object (
    Member (codes "line") (Number f.line) (
    Member (codes "column") (Number f.column) (
    Member (codes "word") (Word f.word) (
    Member (codes "cause") (Word (text_of_cause (cause_of_wrong f.wrong))) (
    Member (codes "expected") (Word (expected f.wrong)) (near_members f.near))))))

-- all faults, and a line feed
abbrev pub faults_json : List Fault → List ℕ
faults_json fs = json (Array (values (map fault_value fs))) ++ 10 ∷ []

-- AS THE CODE WRITES IT, piece by piece

abbrev pub near_piece : Option (List ℕ) → List ℕ
near_piece None = []
near_piece (Some w) = more_member (codes "near") (Word w)

abbrev pub fault_piece : Fault → List ℕ
fault_piece f =
    123 ∷ (first_member (codes "line") (Number f.line) ++ more_member (codes "column") (Number f.column) ++ more_member (codes "word") (Word f.word)
    ++ more_member (codes "cause") (Word (text_of_cause (cause_of_wrong f.wrong))) ++ more_member (codes "expected") (Word (expected f.wrong)) ++ near_piece f.near ++ 125 ∷ [])

abbrev pub further_piece : Fault → List ℕ
further_piece f = 44 ∷ 10 ∷ fault_piece f

-- the first value, and the others each after a comma
abbrev pub pieces : List Fault → List ℕ
pieces [] = []
pieces (f ∷ fs) = fault_piece f ++ flat_map further_piece fs

abbrev pub array_text : List Fault → List ℕ
array_text fs = 91 ∷ (pieces fs ++ 93 ∷ 10 ∷ [])
