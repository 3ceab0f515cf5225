-- Each command's answer to its input: the bytes, the status, and what is returned.
use Rattle.std.specs.Prelude.{◌≡◌, ◌+◌, ℕ, true, false, Bool, Option, Some, None, List, [], ◌∷◌, Result, Ok, Err, length, codes}
use Rattle.std.specs.Fmt.{decimal}
use Rattle.command_answers.specs.Common.{ProgramText, TextFault, program_of, made_text, SettingsValue, field_limit, usual_settings, EntryValue, InputFault, TraceInput, input_fault, settings_for, IsInput, RunEnd, Short, end_of, refused_as_run, machine_of, tasks_of, end_line, out_text, Extras, Race, accesses, IsReport, races_text, SharedValue, accounts, IsSharedValue, ImageFault, image_fault, objects_in, ImageData, IsSoundPicture, text_of, IsPictureOf, HasJustHeld, Refusal, Words, Source, Entry, Image as ImageRefused, refusal_line, refusal_of, Options, CommandLine, Check, Run, Replay, Model, Races, Make, Verify}
use Rattle.race_report.specs.below.run_ledger.{RefusedAt}
use Rattle.command_line.specs.declared.line.CommandLine.TheVariants.{Image as ImageOf}
use Rattle.command_answers.specs.declared.answer.CommandStatus.{CommandStatus}
use Rattle.command_answers.specs.declared.answer.CommandStatus.TheVariants.{Done, Races as RacesFound}
use Rattle.command_answers.specs.declared.answer.Answer.{Answer}
use Rattle.command_answers.specs.CommandStatus.{status_of_end, status_of_refusal}
use Rattle.command_answers.specs.Input.{program_in}
use Rattle.command_answers.specs.Runs.{IsReplayedRun, IsWorkersRun, LeavesPaced, LeavesPrefix}

-- only bytes; nothing of a run is returned
pub record IsText (named : CommandStatus) (bytes : List ℕ) (a : Answer) : Type 0 where
  pub status : a.status ≡ named
  pub written : a.bytes ≡ bytes
  pub journal : a.journal ≡ []
  pub shared : a.shared ≡ None

-- REFUSALS

-- of command-line arguments, or of an input
abbrev pub Refuses : Refusal → Answer → Type 0
Refuses r = IsText (status_of_refusal r) (refusal_line r)

-- of words that are no command line
abbrev pub AnswersWords : Answer → Type 0
AnswersWords = Refuses Words

-- PROGRAMS

-- an input that is a program has this answer, any other is refused by its first fault
abbrev pub WhereProgram : (ProgramText → Answer → Type 0) → Result ProgramText TextFault → Answer → Type 0
WhereProgram P (Ok p) = P p
WhereProgram P (Err r) = Refuses (Source r)

abbrev pub AnswersText : (ProgramText → Answer → Type 0) → List ℕ → Answer → Type 0
AnswersText P input = WhereProgram P (program_in input)

-- CHECK

abbrev pub AnswersCheck : List ℕ → Answer → Type 0
AnswersCheck = AnswersText (λ p. IsText Done (end_line (codes "accepted" ∷ [])))

-- RUN

-- what is written besides the outputs and the end line
abbrev pub extras_of : Options → Extras
extras_of o = record { report = o.report; trace = o.trace }

abbrev pub AnswersProgram : Options → ProgramText → Answer → Type 0
AnswersProgram o p = IsWorkersRun p o.settings (extras_of o)

abbrev pub AnswersRun : Options → List ℕ → Answer → Type 0
AnswersRun o = AnswersText (AnswersProgram o)

-- PROGRAMS WITH A TRACE

-- a journal that isn't refused, but has no end, is short
abbrev pub short_of : List EntryValue → RefusedAt
short_of journal = record { index = length journal + 1; cause = Short }

-- a journal of a whole run has this answer, any other is refused by its first refused entry, or as short
abbrev pub WhereWhole : (Answer → Type 0) → Option RefusedAt → Answer → Type 0
WhereWhole P None = P
WhereWhole P (Some r) = Refuses (Entry r)

abbrev pub AnswersTrace : (ProgramText → SettingsValue → List EntryValue → Answer → Type 0) → SettingsValue → TraceInput → Answer → Type 0
AnswersTrace P s t = WhereWhole (P t.program (settings_for s t) t.trace.entries) (refused_as_run t.program (settings_for s t) t.trace.entries)

abbrev pub WhereTraced : (TraceInput → Answer → Type 0) → List ℕ → Option InputFault → Answer → Type 0
WhereTraced P input None a = (t : TraceInput) × IsInput input t × P t a
WhereTraced P input (Some f) a = Refuses (refusal_of f) a

abbrev pub AnswersTraced : (ProgramText → SettingsValue → List EntryValue → Answer → Type 0) → SettingsValue → List ℕ → Answer → Type 0
AnswersTraced P s input = WhereTraced (AnswersTrace P s) input (input_fault input)

-- REPLAY

abbrev pub IsReplay : Options → ProgramText → SettingsValue → List EntryValue → Answer → Type 0
IsReplay o p s entries = IsReplayedRun p s (extras_of o) entries

abbrev pub AnswersReplay : Options → List ℕ → Answer → Type 0
AnswersReplay o = AnswersTraced (IsReplay o) o.settings

-- MODEL writes the same, and returns nothing

pub record IsModelled (o : Options) (p : ProgramText) (s : SettingsValue) (entries : List EntryValue) (a : Answer) : Type 0 where
  pub end : RunEnd
  pub ended : end_of p s entries ≡ Some end
  pub text : IsText (status_of_end end) (out_text p s o.report o.trace entries) a

abbrev pub AnswersModel : Options → List ℕ → Answer → Type 0
AnswersModel o = AnswersTraced (IsModelled o) o.settings

-- RACES

abbrev pub races_status : List Race → CommandStatus
races_status [] = Done
races_status (r ∷ rs) = RacesFound

-- the races of a journal, the pair of each field, in the order of the fields
pub record IsRaceAnswer (p : ProgramText) (s : SettingsValue) (journal : List EntryValue) (a : Answer) : Type 0 where
  pub races : List Race
  pub report : IsReport (machine_of p s journal).edges (accesses p (field_limit s.version) (tasks_of journal)) races
  pub text : IsText (races_status races) (races_text races) a

abbrev pub AnswersRaces : SettingsValue → List ℕ → Answer → Type 0
AnswersRaces = AnswersTraced IsRaceAnswer

-- IMAGE

-- the text of a sound picture of a shared value, with exactly the objects of heaps at rest
pub record IsImageOf (w : SharedValue) (text : List ℕ) : Type 0 where
  pub picture : ImageData
  pub draws : IsPictureOf w picture
  pub sound : IsSoundPicture picture
  pub held : HasJustHeld picture (accounts w)
  pub written : text ≡ text_of picture

-- the image of a shared value that represents its journal, after a run of these entries
pub record IsImaged (p : ProgramText) (s : SettingsValue) (entries : List EntryValue) (a : Answer) : Type 0 where
  pub whole : SharedValue
  pub stands : IsSharedValue whole
  pub program : whole.program ≡ p
  pub settings : whole.settings ≡ s
  pub journal : whole.journal.items ≡ entries
  pub image : List ℕ
  pub shows : IsImageOf whole image
  pub text : IsText Done image a

abbrev pub AnswersImaging : SettingsValue → List ℕ → Answer → Type 0
AnswersImaging = AnswersTraced IsImaged

-- VERIFY

abbrev pub AnswersImage : Option ImageFault → ℕ → Answer → Type 0
AnswersImage (Some f) objects = Refuses (ImageRefused f)
AnswersImage None objects = IsText Done (end_line (codes "verified" ∷ decimal objects ∷ []))

abbrev pub AnswersVerify : List ℕ → Answer → Type 0
AnswersVerify input = AnswersImage (image_fault input) (objects_in input)

-- MAKE

-- the report is asked for, with the usual settings
abbrev pub summary : Options
summary = record { settings = usual_settings; report = true; trace = false }

-- the text, or a whole run of its program: no made text is refused
abbrev pub AnswersMake : ℕ → ℕ → Bool → Answer → Type 0
AnswersMake seed size false = IsText Done (made_text seed size)
AnswersMake seed size true = AnswersProgram summary (program_of (made_text seed size))

-- EACH COMMAND

abbrev pub AnswersLine : CommandLine → List ℕ → Answer → Type 0
AnswersLine (Check file) input = AnswersCheck input
AnswersLine (Run file options) input = AnswersRun options input
AnswersLine (Replay file options) input = AnswersReplay options input
AnswersLine (Model file options) input = AnswersModel options input
AnswersLine (Races file limits) input = AnswersRaces limits input
AnswersLine (ImageOf file limits) input = AnswersImaging limits input
AnswersLine (Make seed size run) input = AnswersMake seed size run
AnswersLine (Verify file) input = AnswersVerify input

-- OUT OF MEMORY DURING A RUN: what is returned of it

-- the text of this program, within the limit
abbrev pub IsProgramInput : List ℕ → ProgramText → Type 0
IsProgramInput input p = program_in input ≡ Ok p

abbrev pub LeavesRun : Options → List ℕ → List EntryValue → Option SharedValue → Type 0
LeavesRun o input journal shared = (p : ProgramText) × IsProgramInput input p × LeavesPaced p o.settings journal shared

abbrev pub LeavesReplay : Options → List ℕ → List EntryValue → Option SharedValue → Type 0
LeavesReplay o input journal shared =
    (t : TraceInput) × IsInput input t × LeavesPrefix t.program (settings_for o.settings t) t.trace.entries journal shared

-- commands that run no program leave nothing
abbrev pub LeavesNone : List EntryValue → Option SharedValue → Type 0
LeavesNone journal shared = ⊥

abbrev pub LeavesMake : ℕ → ℕ → Bool → List EntryValue → Option SharedValue → Type 0
LeavesMake seed size false = LeavesNone
LeavesMake seed size true = LeavesPaced (program_of (made_text seed size)) usual_settings

abbrev pub LeavesLine : CommandLine → List ℕ → List EntryValue → Option SharedValue → Type 0
LeavesLine (Run file options) input = LeavesRun options input
LeavesLine (Replay file options) input = LeavesReplay options input
LeavesLine (Make seed size run) input = LeavesMake seed size run
LeavesLine _ input = LeavesNone
