-- The answer from what workers have left of a run.
use Rattle.std.specs.Prelude.{◌≡◌, Option, Some}
use Rattle.refusal_lines.specs.below.run_report.{Extras}
use Rattle.worker_run.specs.below.core_invariant.{SharedValue}
use Rattle.run_answers.specs.below.command_answers.{Answer, IsReplayedRun}

-- that of a run that has ended: of its journal
abbrev pub AnswersLeft : Option SharedValue → Extras → Answer → Type 0
AnswersLeft left extras a = (w : SharedValue) × (left ≡ Some w) × IsReplayedRun w.program w.settings extras w.journal.items a
