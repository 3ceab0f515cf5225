-- What the reader of programs says of a text, and what its faults are.
use Rattle.std.specs.Prelude.{◌≡◌, ◌↔◌, ℕ, Option, Some, None, List, [], ◌∷◌}
use Rattle.program_reader.specs.declared.cause.TextFault.{TextFault}
use Rattle.program_reader.specs.Fault.{first_fault}
use Rattle.text_faults.specs.declared.fault.Fault.{Fault}
use Rattle.text_faults.specs.Faults.{cause_of_wrong, faults_of}

-- the line and the cause of the first of some faults
abbrev pub first_of_faults : List Fault → Option TextFault
first_of_faults [] = None
first_of_faults (f ∷ fs) = Some (record { line = f.line; cause = cause_of_wrong f.wrong })

-- THE FIRST FAULT of each text is the one that the reader of programs reports
abbrev pub FirstIsTold : Type 0
FirstIsTold = (text : List ℕ) → first_of_faults (faults_of text) ≡ first_fault text

-- so a text has none if and only if it is a program
abbrev pub NoneInPrograms : Type 0
NoneInPrograms = (text : List ℕ) → (faults_of text ≡ []) ↔ (first_fault text ≡ None)
