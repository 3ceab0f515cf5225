-- A whole call of `command`, in the terms of a call of any program.
use Rattle.std.specs.Prelude.{ℕ, Option, Some, None, List}
use Rattle.command_line.specs.declared.line.CommandLine.{CommandLine}
use Rattle.command_line.specs.declared.line.CommandLine.TheVariants.{Check, Run, Replay, Model, Races as RacesOf, Image as ImageOf, Make, Verify}
use Rattle.run_answers.specs.below.command_answers.{CommandStatus, Done, Words, Source, Trap, Entangled, Fuel, Pool, ReadFault, WriteFault, NoMemory, Trace, Races, Image, CallResult, limit_of, DeliversLine, DeliversWords}
use Rattle.whole_call.specs.declared.status.AnswerStatus.TheVariants.{Done as DoneAnswer, Words as WordsAnswer, Source as SourceAnswer, Trap as TrapAnswer, Entangled as EntangledAnswer, Fuel as FuelAnswer, Pool as PoolAnswer, Trace as TraceAnswer, Races as RacesAnswer, Image as ImageAnswer}
use Rattle.whole_call.specs.declared.status.CallStatus.{CallStatus}
use Rattle.whole_call.specs.declared.status.CallStatus.TheVariants.{Answered, ReadFault as ReadFailed, WriteFault as WriteFailed, NoMemory as MemoryFailed}
use Rattle.whole_call.specs.Input.{Reads, ReadsNothing, ReadsUpTo, SourceState}
use Rattle.whole_call.specs.Call.{IsWholeCall}

-- the status of a whole call that ended in this way
abbrev pub call_status : CommandStatus → CallStatus
call_status Done = Answered DoneAnswer
call_status Words = Answered WordsAnswer
call_status Source = Answered SourceAnswer
call_status Trap = Answered TrapAnswer
call_status Entangled = Answered EntangledAnswer
call_status Fuel = Answered FuelAnswer
call_status Pool = Answered PoolAnswer
call_status ReadFault = ReadFailed
call_status WriteFault = WriteFailed
call_status NoMemory = MemoryFailed
call_status Trace = Answered TraceAnswer
call_status Races = Answered RacesAnswer
call_status Image = Answered ImageAnswer

-- what a command reads: a file or standard input, up to this limit; `make` reads nothing
abbrev pub reads_within : ℕ → CommandLine → Reads
reads_within limit (Check file) = ReadsUpTo limit file
reads_within limit (Run file options) = ReadsUpTo limit file
reads_within limit (Replay file options) = ReadsUpTo limit file
reads_within limit (Model file options) = ReadsUpTo limit file
reads_within limit (RacesOf file settings) = ReadsUpTo limit file
reads_within limit (ImageOf file settings) = ReadsUpTo limit file
reads_within limit (Make seed size run) = ReadsNothing
reads_within limit (Verify file) = ReadsUpTo limit file

-- it has a limit of its own
abbrev pub line_reads : CommandLine → Reads
line_reads line = reads_within (limit_of line) line

-- arguments that are no command line read nothing
abbrev pub call_reads : Option CommandLine → Reads
call_reads None = ReadsNothing
call_reads (Some line) = line_reads line

-- arguments that are no command line are refused; a command answers its input
abbrev pub AnswersInput : Option CommandLine → List ℕ → CallResult → Option (List ℕ) → Option (List ℕ) → Type 0
AnswersInput None input = DeliversWords
AnswersInput (Some line) input = DeliversLine line input

-- a whole call with this command line, with a source and a sink; `WriteFails` means that the sink failed
abbrev pub AnswersCommand : Option CommandLine → CallResult → SourceState → SourceState → Option (List ℕ) → Option (List ℕ) → Type 0 → Type 0
AnswersCommand asked r source left before after WriteFails = IsWholeCall (call_reads asked) (λ input. AnswersInput asked input r before after) WriteFails (call_status r.status) source left
