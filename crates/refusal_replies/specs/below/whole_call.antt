-- Re-exports from `whole_call` for the crates above.
pub use Rattle.whole_call.specs.Call.{IsWholeCall}
pub use Rattle.whole_call.specs.Input.{HasRead, HasTaken, Reads, ReadsNothing, ReadsUpTo, SourceState}
pub use Rattle.whole_call.specs.Output.{Says}
pub use Rattle.whole_call.specs.Streams.{EndsWithReply, WritesReply, Streams}
pub use Rattle.whole_call.specs.declared.reply.Reply.{Reply}
pub use Rattle.whole_call.specs.declared.status.AnswerStatus.TheVariants.{Done, Races, Trace}
pub use Rattle.whole_call.specs.declared.status.AnswerStatus.{AnswerStatus}
pub use Rattle.whole_call.specs.declared.status.CallStatus.TheVariants.{NoMemory, ReadFault, WriteFault}
pub use Rattle.whole_call.specs.declared.status.CallStatus.{CallStatus}
