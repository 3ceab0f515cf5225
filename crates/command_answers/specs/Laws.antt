-- What follows for answers.
use Rattle.std.specs.Prelude.{◌≡◌, ◌≢◌, ◌≤◌, ◌⊎◌, ◌++◌, Bool, List, ℕ, Option, Some, true, length}
use Rattle.std.specs.List.{All}
use Rattle.command_answers.specs.Common.{most_bytes, with_more, ProgramText, TextFault, program_of, made_text, size_limit, Two, EntryValue, IsEntry, SettingsValue, trace_text, EndsInFeed, TraceInput, input_fault, settings_for, IsInput, RunEnd, ledger_of, ImageData, text_of, HasJustHeld, Options, CommandLine, Run, Replay, Model, Make}
use Rattle.made_program_laws.specs.below.trace_input.{Source as SourceFault}
use Rattle.command_answers.specs.declared.answer.CommandStatus.{CommandStatus}
use Rattle.command_answers.specs.declared.answer.CommandStatus.TheVariants.{Done, Source, Entangled, ReadFault, WriteFault, NoMemory, Trace}
use Rattle.command_answers.specs.declared.answer.Answer.{Answer}
use Rattle.command_answers.specs.declared.answer.CallResult.{CallResult}
use Rattle.command_answers.specs.Answers.{AnswersImaging, AnswersLine, AnswersModel, AnswersProgram, AnswersRaces, AnswersReplay, AnswersVerify, IsProgramInput, summary}
use Rattle.command_answers.specs.Delivery.{DeliversLine}
use Rattle.command_answers.specs.CommandStatus.{status_of_end}

-- the answer was given with all its bytes, or memory ran out
abbrev pub GivesAll : (Answer → Type 0) → CallResult → Option (List ℕ) → Option (List ℕ) → Type 0
GivesAll P r before after =
    (r.status ≡ NoMemory) ⊎ ((a : Answer) × P a × (r.status ≡ a.status) × (r.journal ≡ a.journal) × (r.shared ≡ a.shared) × (after ≡ with_more before a.bytes))

-- no fault occurred
pub record NoFault (r : CallResult) : Type 0 where
  pub read : r.status ≢ ReadFault
  pub write : r.status ≢ WriteFault

-- a command and its input, and no fault
abbrev pub NoFaultGivesAll : Type 0
NoFaultGivesAll =
    (line : CommandLine) (input : List ℕ) (r : CallResult) (before after : Option (List ℕ)) → DeliversLine line input r before after → NoFault r
    → GivesAll (AnswersLine line input) r before after

-- so a program that `run` gets is run: the answer is that of a whole run
abbrev pub ProgramsAreRun : Type 0
ProgramsAreRun =
    (file : Option (List ℕ)) (o : Options) (input : List ℕ) (p : ProgramText) (r : CallResult) (before after : Option (List ℕ)) → IsProgramInput input p
    → DeliversLine (Run file o) input r before after → NoFault r → GivesAll (AnswersProgram o p) r before after

-- a made text is the text of its program, and within the limit
abbrev pub MadeAreRead : Type 0
MadeAreRead = (seed size : ℕ) → 1 ≤ size → size ≤ size_limit → IsProgramInput (made_text seed size) (program_of (made_text seed size))

-- and so is one made by `make`
abbrev pub MadeAreRun : Type 0
MadeAreRun =
    (seed size : ℕ) (input : List ℕ) (r : CallResult) (before after : Option (List ℕ)) → DeliversLine (Make seed size true) input r before after → NoFault r
    → GivesAll (AnswersProgram summary (program_of (made_text seed size))) r before after

-- no made text is refused
abbrev pub MadeAreAccepted : Type 0
MadeAreAccepted = (seed size : ℕ) (run : Bool) (input : List ℕ) (r : CallResult) (before after : Option (List ℕ)) → DeliversLine (Make seed size run) input r before after → r.status ≢ Source

-- the program of a text with a trace has no fault
abbrev pub HasProgram : List ℕ → Type 0
HasProgram input = (r : TextFault) → input_fault input ≢ Some (SourceFault r)

-- the status is that of an end of a run
abbrev pub IsEnd : CommandStatus → Type 0
IsEnd status = (e : RunEnd) × (status ≡ status_of_end e)

-- a replay of a program, on the core or on the machine that never collects, reports an end of its run, or refuses the
-- trace
abbrev pub TracesAreReplayed : Type 0
TracesAreReplayed =
    (file : Option (List ℕ)) (o : Options) (input : List ℕ) (r : CallResult) (before after : Option (List ℕ)) → HasProgram input
    → (DeliversLine (Replay file o) input r before after ⊎ DeliversLine (Model file o) input r before after) → NoFault r
    → (r.status ≡ NoMemory) ⊎ ((r.status ≡ Trace) ⊎ IsEnd r.status)

-- `verify` verifies what `image` writes of a whole run, unless it is too long
abbrev pub ImagesAreVerified : Type 0
ImagesAreVerified =
    (s : SettingsValue) (input : List ℕ) (a b : Answer) → AnswersImaging s input a → a.status ≡ Done → length a.bytes ≤ most_bytes → AnswersVerify a.bytes b → b.status ≡ Done

-- `image` writes, of a whole run, the text of a picture whose objects are exactly those that the heaps of the tasks
-- that don't run hold by the accounts of its trace, each as it is in the machine's store
pub record HasImage (s : SettingsValue) (input : List ℕ) (a : Answer) : Type 0 where
  pub read : TraceInput
  pub is : IsInput input read
  pub picture : ImageData
  pub written : a.bytes ≡ text_of picture
  pub held : HasJustHeld picture (ledger_of read.program (settings_for s read) read.trace.entries)

abbrev pub ImagesHaveJustHeld : Type 0
ImagesHaveJustHeld = (s : SettingsValue) (input : List ℕ) (a : Answer) → AnswersImaging s input a → a.status ≡ Done → HasImage s input a

-- two answers write the same, with the same status
pub record WriteTheSame (a b : Answer) : Type 0 where
  pub status : a.status ≡ b.status
  pub bytes : a.bytes ≡ b.bytes

-- `model` writes what `replay` writes
abbrev pub ModelWritesTheSame : Type 0
ModelWritesTheSame = (o : Options) (input : List ℕ) (a b : Answer) → AnswersReplay o input a → AnswersModel o input b → WriteTheSame a b

-- a program's text followed by the trace of a run's journal: the text ends in a line feed, the entries are such as
-- traces have, and both together are within the limit
pub record IsRecorded (text : List ℕ) (journal : List EntryValue) : Type 0 where
  pub feed : EndsInFeed text
  pub entries : All IsEntry journal
  pub within : length (text ++ trace_text Two journal) ≤ most_bytes

-- with the same options `replay` and `model` of it write what the run wrote, with its status
abbrev pub RecordedRunsAreAlike : Type 0
RecordedRunsAreAlike =
    (o : Options) (text : List ℕ) (p : ProgramText) (a b : Answer) → o.settings.version ≡ Two → IsProgramInput text p → AnswersProgram o p a → IsRecorded text a.journal
    → (AnswersReplay o (text ++ trace_text Two a.journal) b ⊎ AnswersModel o (text ++ trace_text Two a.journal) b) → WriteTheSame a b

-- a trace for which `races` reports no race is never one of an entangled run
abbrev pub RacelessAreDisentangled : Type 0
RacelessAreDisentangled = (o : Options) (input : List ℕ) (a b : Answer) → AnswersRaces o.settings input a → a.status ≡ Done → AnswersReplay o input b → b.status ≢ Entangled
