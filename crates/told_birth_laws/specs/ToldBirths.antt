-- The entangled lines of a log, by its report and by what it tells.
use Rattle.std.specs.Prelude.{◌≡◌, ◌↔◌, ℕ, Option, Some, List, slice_get}
use Rattle.log_births.specs.Blocks.{born}
use Rattle.log_births.specs.Findings.{IsEntangled}
use Rattle.log_births.specs.declared.findings.Finding.{Finding}
use Rattle.told_graph_laws.specs.ToldGraph.{AreToldInOrder}
use Rattle.told_graph_laws.specs.below.fork_graph.{Extent, StrandPrecedes}
use Rattle.told_graph_laws.specs.below.log_form.{Event}
use Rattle.told_graph_laws.specs.below.log_tasks.{IsLog, LogTasks}
use Rattle.told_graph_laws.specs.below.run_log_laws.{IsCutRun}
use Rattle.told_graph_laws.specs.below.run_turn_laws.{Act, turns_told}

-- what is told as act `line` sees the block, whose birth is told as act `other`, and by the turns told the birth
-- doesn't happen before it
pub record IsToldEntangled (sees : Act → Option ℕ) (events : List Event) (f : Finding) : Type 0 where
  pub birth : Event
  pub sight : Event
  pub born_there : slice_get events f.other ≡ Some birth
  pub seen_here : slice_get events f.line ≡ Some sight
  pub bears : born birth.act ≡ Some f.block
  pub is_seen : sees sight.act ≡ Some f.block
  pub not_before : StrandPrecedes (turns_told events) birth.strand sight.strand → ⊥

abbrev pub LogBirthsAreTold : Type 0
LogBirthsAreTold =
    (n : ℕ) (events : List Event) (extent : Extent) (log : LogTasks)
    → AreToldInOrder n events → IsCutRun (turns_told events) n → IsLog events extent log
    → (sees : Act → Option ℕ) (f : Finding) → IsEntangled sees events log f ↔ IsToldEntangled sees events f
