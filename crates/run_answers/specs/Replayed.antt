-- The answer at some point of a replay.
use Rattle.std.specs.Prelude.{Some, Result, Ok, Err}
use Rattle.race_report.specs.below.run_ledger.{refused_as_run}
use Rattle.refusal_lines.specs.below.run_report.{Extras}
use Rattle.refusal_lines.specs.declared.refusal.Refusal.TheVariants.{Entry}
use Rattle.journal_replay.specs.below.core_invariant.{IsSharedValue}
use Rattle.journal_replay.specs.WorldValue.{WorldValue}
use Rattle.journal_replay.specs.declared.replaying.ReplayStop.{ReplayStop}
use Rattle.journal_replay.specs.declared.replaying.ReplayStop.TheVariants.{RefusedAt as Stops, NoMemory as WantsMemory}
use Rattle.command_answers.specs.declared.answer.Answer.{Answer}
use Rattle.command_answers.specs.declared.wanted.Wanted.{Wanted}
use Rattle.command_answers.specs.declared.wanted.Wanted.TheVariants.{Before}
use Rattle.command_answers.specs.Runs.{IsReplayedRun}
use Rattle.command_answers.specs.Answers.{Refuses, WhereWhole}
use Rattle.command_answers.specs.Delivery.{remains_of}

-- nothing if memory ran out
abbrev pub AnswersReplayed : Extras → Result WorldValue (ReplayStop WorldValue) → Answer → Type 0
AnswersReplayed extras (Ok x) a =
    WhereWhole (IsReplayedRun x.shared.program x.shared.settings extras x.shared.journal.items) (refused_as_run x.shared.program x.shared.settings x.shared.journal.items) a
AnswersReplayed extras (Err (Stops r)) a = Refuses (Entry r) a
AnswersReplayed extras (Err (WantsMemory x)) a = ⊥

-- the shared value left is one that represents its journal
abbrev pub StandsReplayed : Result WorldValue (ReplayStop WorldValue) → Type 0
StandsReplayed (Ok x) = IsSharedValue x.shared
StandsReplayed (Err (Stops r)) = Unit {0}
StandsReplayed (Err (WantsMemory x)) = IsSharedValue x.shared

-- what a replay leaves at some point; a refused entry is answered with nothing of its run
abbrev pub remains_by : Result WorldValue (ReplayStop WorldValue) → Wanted
remains_by (Ok x) = remains_of (Some x.shared)
remains_by (Err (Stops r)) = Before
remains_by (Err (WantsMemory x)) = remains_of (Some x.shared)
