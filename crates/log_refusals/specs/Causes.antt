-- Causes in words.
use Rattle.std.specs.Prelude.{ℕ, List, codes}
use Rattle.log_lines.specs.declared.cause.LogCause.{LogCause}
use Rattle.log_lines.specs.declared.cause.LogCause.TheVariants as causes
use Rattle.log_form.specs.declared.fault.LogFault.{LogFault}
use Rattle.log_form.specs.declared.fault.LogFault.TheVariants as faults
use Rattle.log_tasks.specs.declared.fault.TaskCause.{TaskCause}
use Rattle.log_tasks.specs.declared.fault.TaskCause.TheVariants as tasks

abbrev pub text_of_cause : LogCause → List ℕ
text_of_cause causes.BadWord = codes "bad word"
text_of_cause causes.BadNumber = codes "bad number"
text_of_cause causes.WrongCount = codes "wrong count of words"
text_of_cause causes.OverLimit = codes "over a limit"
text_of_cause causes.RunsOverlap = codes "runs overlap"
text_of_cause causes.UnknownVersion = codes "unknown version"

abbrev pub text_of_fault : LogFault → List ℕ
text_of_fault (faults.NoLine cause) = text_of_cause cause
text_of_fault faults.NoVersion = codes "no version"
text_of_fault faults.AfterEnd = codes "after the end"
text_of_fault faults.NoStrand = codes "no strand is open"
text_of_fault faults.StrandEnded = codes "strand has ended"
text_of_fault faults.SpawnedTwice = codes "task spawned twice"
text_of_fault faults.BornTwice = codes "block born twice"
text_of_fault faults.ReleasedTwice = codes "block released twice"

-- what a task does wrong
abbrev pub text_of_task_cause : TaskCause → List ℕ
text_of_task_cause tasks.JoinsNoOpenChild = codes "joins no open child of its own"
text_of_task_cause tasks.HasNoEnd = codes "has no end"
text_of_task_cause tasks.LeavesUnjoined = codes "leaves children unjoined"
text_of_task_cause tasks.IsUnreached = codes "is spawned by no task that the root leads to"
text_of_task_cause tasks.GoesOnAfterEnd = codes "goes on after its end"
