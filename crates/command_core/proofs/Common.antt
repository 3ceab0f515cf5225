-- The names of lower crates and of the specifications that these proofs use. Declares nothing.
pub use Rattle.run_answers.proofs.below.command_answers.{answered, IsSilent, nothing_given, found_given, found_no_read, handed, made_left, made_run, text_made}
pub use Rattle.run_answers.specs.below.command_answers.{AnswersLine, AnswersWords, LeavesLine, LeavesNone, AnswersMake, LeavesMake, extras_of, AnswersProgram, WhereProgram, DeliversLine, DeliversWords, ReturnsNothing, IsWanted, remains_of, is_reading, limit_of, source_bytes_for, program_in, IsReplayedRun, IsWorkersRun, LeavesPaced, Answer, CallResult, CommandStatus, Done, Words, Source, Trap, Entangled, Fuel, Pool, ReadFault, WriteFault, NoMemory, Trace, Wanted, Amid}
pub use Rattle.run_answers.specs.below.hh_lang.{ProgramText}
pub use Rattle.run_answers.specs.below.read_write_all.{input_of}
pub use Rattle.command_core.specs.Call.{AnswersCommand, AnswersInput, call_reads, call_status, line_reads}
pub use Rattle.command_core.specs.Left.{AnswersLeft}
pub use Rattle.command_line.specs.CommandLine.{command_line}
pub use Rattle.command_line.specs.below.run_trace.{SettingsValue}
pub use Rattle.command_line.specs.declared.line.CommandLine.{CommandLine}
pub use Rattle.command_line.specs.declared.line.CommandLine.TheVariants.{Check, Run, Replay, Model, Races, Image, Make, Verify}
pub use Rattle.gc_pacer.proofs.Sent.{paced_send}
pub use Rattle.io_traits.specs.Fault.{HasRisen}
pub use Rattle.refusal_lines.specs.below.program_reader.{TextFault}
pub use Rattle.refusal_lines.specs.below.run_ledger.{is_paced}
pub use Rattle.refusal_lines.specs.below.run_report.{Extras}
pub use Rattle.std.proofs.Common.{◌≡◌, ◌≤◌, ◌+◌, ℕ, Bool, true, false, List, [], length, take, drop, refl, ap, sym, subst, arith, Some, true≢false, ◌∙◌, rules}
pub use Rattle.std.proofs.lemmas.Bool.{false≢true}
pub use Rattle.std.proofs.lemmas.Result.{IfErr-weaker, IfOk-weaker}
pub use Rattle.std.specs.Prelude.{◌≢◌, Option, None, IfSome, IfOk, Err, Result, map, string_bytes}
pub use Rattle.whole_call.specs.Call.{IsWholeCall}
pub use Rattle.whole_call.specs.Input.{Reads, ReadsNothing, ReadsUpTo, SourceState, HasRead, HasTaken}
pub use Rattle.whole_call.specs.declared.status.AnswerStatus.{AnswerStatus}
pub use Rattle.whole_call.specs.declared.status.CallStatus.{CallStatus}
pub use Rattle.whole_call.specs.declared.status.CallStatus.TheVariants.{Answered}
pub use Rattle.worker_run.specs.Outcomes.{IsRunOf}
pub use Rattle.worker_run.specs.below.core_invariant.{SharedValue, accounts, without_journal}
