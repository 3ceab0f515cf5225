-- Logs that are small, and so not too large.
use Rattle.std.specs.Prelude.{◌≡◌, ◌*◌, ◌^◌, ◌<◌, ◌≤◌, ℕ, Bool, List, length, sum_by}
use Rattle.plain_vec.specs.Members.{In}
use Rattle.log_strands.specs.below.log_form.{Event, events_of}
use Rattle.log_strands.specs.below.log_lines.{Act, Access, Birth}
use Rattle.log_findings.specs.Errors.{LogIsTooLarge}
use Rattle.log_findings.specs.below.fork_graph.{Extent}
use Rattle.log_findings.specs.below.log_tasks.{IsLog, LogTasks}
use Rattle.log_findings.specs.below.log_weights.{units_of}
use Rattle.log_findings.specs.declared.error.ReportError.{ReportError}
use Rattle.log_findings.specs.declared.error.ReportError.TheVariants.{NoMemory}

-- the units of work that acts tell
abbrev pub work_told : List Event → ℕ
work_told events = sum_by (λ (e : Event). units_of e.act) events

-- an access has one location, and a block few words; other acts have neither
abbrev pub IsSmallAct : Act → Type 0
IsSmallAct (Access a) = (a.place.length ≡ 1) × (a.place.runs ≡ 1)
IsSmallAct (Birth block length) = length ≤ 2 ^ 32
IsSmallAct _ = Unit {0}

abbrev pub AreSmallActs : List Event → Type 0
AreSmallActs events = (e : Event) → In events e → IsSmallAct e.act

pub record IsSmallLog (events : List Event) (log : LogTasks) : Type 0 where
  pub few : length events < 2 ^ 32
  pub work : work_told events < 2 ^ 32
  pub acts : AreSmallActs events
  pub tasks : 3 * length log.turns ≤ 2 ^ 32

abbrev pub SmallLogsAreNotTooLarge : Type 0
SmallLogsAreNotTooLarge =
    (texts : List (List ℕ)) (extent : Extent) (log : LogTasks) → IsLog (events_of texts) extent log → IsSmallLog (events_of texts) log
    → (asked : Bool) (cause : ReportError) → LogIsTooLarge asked texts log cause → cause ≡ NoMemory
