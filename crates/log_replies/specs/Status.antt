-- The status of a report.
use Rattle.std.specs.Prelude.{ℕ, ◌==◌, ◌&&◌, Bool, Option, Some, None, length, if◌then◌else◌}
use Rattle.whole_call.specs.declared.status.AnswerStatus.{AnswerStatus}
use Rattle.whole_call.specs.declared.status.AnswerStatus.TheVariants.{Done, Races, CutOff}
use Rattle.log_report.specs.declared.told.LogReport.{LogReport}

-- nothing was found
abbrev pub is_quiet : LogReport → Bool
is_quiet r = (length r.races == 0) && (length r.entangled_reads == 0) && (length r.entangled_uses == 0) && (length r.stale_uses == 0)

-- in a log that was cut off strands may be left out
abbrev pub status_if_cut : Option ℕ → AnswerStatus
status_if_cut None = Done
status_if_cut (Some n) = CutOff

abbrev pub status_of : LogReport → AnswerStatus
status_of r = if is_quiet r then status_if_cut r.left_out else Races
