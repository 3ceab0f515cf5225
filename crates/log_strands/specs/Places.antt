-- Where the strands of a log stand in the serial order of its graph.
use Rattle.std.specs.Prelude.{◌≡◌, ℕ, Bool, true, false, Option, Some, None, List, length, slice_get, nat_le, MatchOption}
use Rattle.fork_graph.specs.declared.graph.GraphStrand.{GraphStrand}
use Rattle.log_pieces.specs.declared.piece.LogPiece.{LogPiece}
use Rattle.log_tasks.specs.declared.tasks.LogTasks.{LogTasks}
use Rattle.log_tasks.specs.Numbers.{log_strand}
use Rattle.log_tasks.specs.Rows.{known_of}

abbrev pub is_up_to : ℕ → Option ℕ → Bool
is_up_to i None = false
is_up_to i (Some known) = nat_le i known

-- the log tells how the strand's task came to it
abbrev pub is_known : LogTasks → GraphStrand → Bool
is_known log u = is_up_to u.index (known_of log u.task)

-- a strand of the log is a known one of the graph, which stands in the order at this place
pub record StrandStandsAt (log : LogTasks) (order : List GraphStrand) (s : GraphStrand) (place : ℕ) : Type 0 where
  pub strand : GraphStrand
  pub at : slice_get order place ≡ Some strand
  pub known : is_known log strand ≡ true
  pub is : log_strand log.numbers strand ≡ s

-- it stands nowhere
abbrev pub StandsNowhere : LogTasks → List GraphStrand → GraphStrand → Type 0
StandsNowhere log order s = (place : ℕ) → StrandStandsAt log order s place → ⊥

-- its place, if it has one
abbrev pub IsPlaceOf : LogTasks → List GraphStrand → GraphStrand → Option ℕ → Type 0
IsPlaceOf log order s place = MatchOption place (StandsNowhere log order s) (StrandStandsAt log order s)

-- the places of the strands of pieces
pub record ArePiecePlaces (log : LogTasks) (order : List GraphStrand) (pieces : List LogPiece) (places : List (Option ℕ)) : Type 0 where
  pub count : length places ≡ length pieces
  pub each : (k : ℕ) (p : LogPiece) (place : Option ℕ) → slice_get pieces k ≡ Some p → slice_get places k ≡ Some place → IsPlaceOf log order p.strand place
