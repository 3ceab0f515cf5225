-- What is reported of a log.
use Rattle.std.specs.Prelude.{◌≡◌, ℕ, Bool, true, false, Option, Some, None, List, length, map, sum}
use Rattle.std.specs.List.Sorted.{IsPermutation, IsNonDecreasingBy}
use Rattle.log_heaps.specs.below.log_walk.{WalkValue}
use Rattle.log_races.specs.below.log_verdict.{AreVerdicts}
use Rattle.log_races.specs.Touches.{touches_of}
use Rattle.log_births.specs.declared.findings.Findings.{Findings}
use Rattle.log_births.specs.Findings.{AreFindings}
use Rattle.log_heaps.specs.Heaps.{AreHeaps}
use Rattle.log_weights.specs.declared.cost.Cost.{Cost}
use Rattle.log_weights.specs.Weights.{weight_of, weights_of}
use Rattle.log_weights.specs.below.ancestor_laws.{IsSpan, serial_order}
use Rattle.log_left.specs.Left.{HasLeftOut}
use Rattle.log_left.specs.below.fork_graph.{GraphStrand, tasks_in}
use Rattle.log_left.specs.below.log_form.{events_of}
use Rattle.log_left.specs.below.log_tasks.{LogTasks}
use Rattle.log_report.specs.declared.heaps.LogHeaps.{LogHeaps}
use Rattle.log_report.specs.declared.told.ToldRace.{ToldRace}
use Rattle.log_report.specs.declared.told.LogReport.{LogReport}
use Rattle.log_report.specs.Told.{first_place}
use Rattle.log_told.specs.declared.telling.ToldFindings.{ToldFindings}
use Rattle.log_told.specs.Told.{told_findings}
use Rattle.log_told.specs.below.race_scan.{FoundRace}

-- the strands of a log's graph in their serial order
abbrev pub order_of : LogTasks → List GraphStrand
order_of tasks = serial_order (tasks_in tasks.turns) (length tasks.turns)

abbrev pub walk_of : LogTasks → WalkValue
walk_of tasks = record { tasks = tasks.turns; order = order_of tasks }

-- what is told of the log's races, just those, and of its entangled and stale lines, just those
pub record AreFindingsOf (texts : List (List ℕ)) (tasks : LogTasks) (told : ToldFindings) : Type 0 where
  pub races : List FoundRace
  pub findings : Findings
  pub are_races : AreVerdicts (walk_of tasks) (touches_of (events_of texts) tasks (order_of tasks)) races
  pub are_findings : AreFindings (events_of texts) tasks findings
  pub told_is : told ≡ told_findings texts races findings

-- the same races, in ascending order of their blocks and locations
pub record IsToldInOrder (races sorted : List ToldRace) : Type 0 where
  pub same : IsPermutation races sorted
  pub ascending : IsNonDecreasingBy first_place sorted

-- the log's work and span
pub record HasCost (texts : List (List ℕ)) (tasks : LogTasks) (work span : ℕ) : Type 0 where
  pub work_is : work ≡ sum (weights_of (events_of texts) tasks (order_of tasks))
  pub span_is : IsSpan (tasks_in tasks.turns) (weight_of (events_of texts) tasks) span

-- how many strands are left out, where the log was cut off
abbrev pub IsLeftOutIf : Bool → List (List ℕ) → LogTasks → Option ℕ → Type 0
IsLeftOutIf false texts tasks left = left ≡ None
IsLeftOutIf true texts tasks left = (n : ℕ) × (left ≡ Some n) × HasLeftOut (events_of texts) tasks (order_of tasks) n

-- what a manager of hierarchical heaps would meet, where that is asked for
abbrev pub AreHeapsIf : Bool → List (List ℕ) → LogTasks → Option LogHeaps → Type 0
AreHeapsIf false texts tasks heaps = heaps ≡ None
AreHeapsIf true texts tasks heaps = (h : LogHeaps) × (heaps ≡ Some h) × AreHeaps (events_of texts) tasks h

-- the report of a log with these texts and tasks, which was cut off or wasn't, with heaps if they are asked for
pub record IsReportOf (texts : List (List ℕ)) (tasks : LogTasks) (cut asked : Bool) (report : LogReport) : Type 0 where
  pub told : ToldFindings
  pub found : AreFindingsOf texts tasks told
  pub races : IsToldInOrder told.races report.races
  pub reads : report.entangled_reads ≡ told.entangled_reads
  pub uses : report.entangled_uses ≡ told.entangled_uses
  pub stale : report.stale_uses ≡ told.stale_uses
  pub cost : HasCost texts tasks report.work report.span
  pub heaps : AreHeapsIf asked texts tasks report.heaps
  pub left : IsLeftOutIf cut texts tasks report.left_out
