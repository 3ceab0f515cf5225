-- The strands of a log that are left out of its graph.
use Rattle.std.specs.Prelude.{◌≡◌, ◌↔◌, ℕ, ◌+◌, ◌*◌, ◌^◌, Bool, true, false, Option, Some, None, List, [], ◌∷◌, ◌++◌, length}
use Rattle.std.specs.List.Sorted.{IsStrictlyIncreasing}
use Rattle.plain_vec.specs.Members.{In}
use Rattle.log_lines.specs.declared.line.Act.{Act}
use Rattle.fork_graph.specs.declared.graph.GraphStrand.{GraphStrand}
use Rattle.log_form.specs.Events.{Event, event}
use Rattle.log_pieces.specs.declared.piece.LogPiece.{LogPiece}
use Rattle.log_pieces.specs.Pieces.{acts_of_piece}
use Rattle.log_tasks.specs.declared.tasks.LogTasks.{LogTasks}
use Rattle.log_strands.specs.Places.{StandsNowhere}

-- the number of a strand among those of all tasks
abbrev pub code_of : GraphStrand → ℕ
code_of s = s.task * 2 ^ 32 + s.index

-- the strand does something, and has no place in the order
pub record IsLeftOut (events : List Event) (tasks : LogTasks) (order : List GraphStrand) (s : GraphStrand) : Type 0 where
  pub act : Act
  pub does : In events (event s act)
  pub nowhere : StandsNowhere tasks order s

-- the numbers of the strands that are left out, each once
pub record AreLeftOut (events : List Event) (tasks : LogTasks) (order : List GraphStrand) (codes : List ℕ) : Type 0 where
  pub ascending : IsStrictlyIncreasing codes
  pub all : (s : GraphStrand) → IsLeftOut events tasks order s → In codes (code_of s)
  pub no_other : (n : ℕ) → In codes n → (s : GraphStrand) × (n ≡ code_of s) × IsLeftOut events tasks order s

-- so many are left out
abbrev pub HasLeftOut : List Event → LogTasks → List GraphStrand → ℕ → Type 0
HasLeftOut events tasks order n = (codes : List ℕ) × AreLeftOut events tasks order codes × (n ≡ length codes)

-- PIECE BY PIECE

-- acts are there, of a strand that has no place
abbrev pub is_left_out : List Act → Option ℕ → Bool
is_left_out acts (Some place) = false
is_left_out [] None = false
is_left_out (a ∷ acts) None = true

abbrev pub code_if : Bool → GraphStrand → List ℕ
code_if true s = code_of s ∷ []
code_if false s = []

-- the numbers of the strands of pieces that are left out, by the places of the pieces' strands
abbrev pub left_codes : List (List ℕ) → List LogPiece → List (Option ℕ) → List ℕ
left_codes texts [] places = []
left_codes texts (p ∷ ps) [] = []
left_codes texts (p ∷ ps) (place ∷ places) = code_if (is_left_out (acts_of_piece texts p) place) p.strand ++ left_codes texts ps places
