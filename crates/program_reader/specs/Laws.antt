-- The first fault of a text, by all its lines.
use Rattle.std.specs.Prelude.{◌≡◌, ℕ, ◌+◌, ◌<◌, Option, Some, None, List, [], ◌∷◌, ◌++◌, length}
use Rattle.program_reader.specs.declared.cause.Cause.{Cause}
use Rattle.program_reader.specs.declared.cause.TextFault.{TextFault}
use Rattle.text_lines.specs.Lines.{lines_of}
use Rattle.program_reader.specs.Around.{outline_of}
use Rattle.program_reader.specs.Fault.{spot_of, fault_on, first_fault}

-- the lines from the last to the first, before others
abbrev pub turned : List (List ℕ) → List (List ℕ) → List (List ℕ)
turned others [] = others
turned others (l ∷ ls) = turned (l ∷ others) ls

-- the first cause on a line, given the lines around it
abbrev pub cause_at : List ℕ → List (List ℕ) → List ℕ → List (List ℕ) → Option Cause
cause_at text before line below = fault_on (outline_of text) (spot_of (turned [] before) line below) line

-- a text has no fault if and only if no line has one
abbrev pub HasNoFault : List ℕ → Type 0
HasNoFault text = (before : List (List ℕ)) (line : List ℕ) (below : List (List ℕ)) → lines_of text ≡ before ++ line ∷ below → cause_at text before line below ≡ None

-- the refused line has the cause, and no line before it has a fault
pub record IsRefusedAt (text : List ℕ) (r : TextFault) : Type 0 where
  pub before : List (List ℕ)
  pub line : List ℕ
  pub below : List (List ℕ)
  pub lines : lines_of text ≡ before ++ line ∷ below
  pub number : r.line ≡ length before + 1
  pub cause : cause_at text before line below ≡ Some r.cause
  pub first : (earlier : List (List ℕ)) (other : List ℕ) (later : List (List ℕ)) → lines_of text ≡ earlier ++ other ∷ later → length earlier < length before → cause_at text earlier other later ≡ None

abbrev pub NoFaultLaw : Type 0
NoFaultLaw = (text : List ℕ) → first_fault text ≡ None → HasNoFault text

abbrev pub FirstFaultLaw : Type 0
FirstFaultLaw = (text : List ℕ) (r : TextFault) → first_fault text ≡ Some r → IsRefusedAt text r
