-- Re-exports from `command_answers` for the crates above.
pub use Rattle.command_answers.specs.Answers.{AnswersMake, AnswersLine, LeavesLine, LeavesMake, AnswersProgram, AnswersRun, LeavesRun, AnswersWords, LeavesNone, extras_of, WhereProgram}
pub use Rattle.command_answers.specs.Delivery.{IsWanted, remains_of, DeliversLine, DeliversWords, GivesFound, IsAnswered, ReturnsNothing}
pub use Rattle.command_answers.specs.Runs.{LeavesPaced, IsReplayedRun, IsWorkersRun}
pub use Rattle.command_answers.specs.CommandStatus.{code_of_status}
pub use Rattle.command_answers.specs.declared.answer.CommandStatus.TheVariants.{Races, Image, Done, Words, Source, Trap, Entangled, Fuel, Pool, ReadFault, WriteFault, NoMemory, Trace}
pub use Rattle.command_answers.specs.Input.{is_reading, limit_of, source_bytes_for, program_in}
pub use Rattle.command_answers.specs.declared.answer.Answer.{Answer}
pub use Rattle.command_answers.specs.declared.answer.CallResult.{CallResult}
pub use Rattle.command_answers.specs.declared.answer.CommandStatus.{CommandStatus}
pub use Rattle.command_answers.specs.declared.wanted.Wanted.{Wanted}
pub use Rattle.command_answers.specs.declared.wanted.Wanted.TheVariants.{Amid}
pub use Rattle.command_answers.specs.CommandStatus as CommandStatus
pub use Rattle.command_answers.specs.Input as Input
pub use Rattle.command_answers.specs.Runs as Runs
pub use Rattle.command_answers.specs.Answers as Answers
pub use Rattle.command_answers.specs.Delivery as Delivery
pub use Rattle.command_answers.specs.Laws as Laws
pub use Rattle.command_answers.specs.Headline as Headline
