-- The answers for runs, and what is returned of them.
use Rattle.std.specs.Prelude.{◌≡◌, true, Option, Some, List}
use Rattle.command_answers.specs.Common.{ProgramText, EntryValue, SettingsValue, RunEnd, IsPrefix, end_of, is_legal, is_paced, out_text, Extras, SharedValue, without_journal, IsSharedValue}
use Rattle.command_answers.specs.declared.answer.Answer.{Answer}
use Rattle.command_answers.specs.CommandStatus.{status_of_end}

-- the journal of a run of the program with the settings, which is legal, and the shared value that represents it, from
-- which it was moved out
pub record ReturnsRun (p : ProgramText) (s : SettingsValue) (journal : List EntryValue) (shared : Option SharedValue) : Type 0 where
  pub whole : SharedValue
  pub stands : IsSharedValue whole
  pub program : whole.program ≡ p
  pub settings : whole.settings ≡ s
  pub legal : is_legal p s journal ≡ true
  pub moved : journal ≡ whole.journal.items
  pub remains : shared ≡ Some (without_journal whole)

-- A WHOLE RUN: the journal returned has an end; the definitions alone determine the bytes and the status from this
-- journal
pub record IsWholeRun (p : ProgramText) (s : SettingsValue) (extras : Extras) (a : Answer) : Type 0 where
  pub back : ReturnsRun p s a.journal a.shared
  pub end : RunEnd
  pub ended : end_of p s a.journal ≡ Some end
  pub status : a.status ≡ status_of_end end
  pub bytes : a.bytes ≡ out_text p s extras.report extras.trace a.journal

-- one by workers keeps the pace
abbrev pub IsWorkersRun : ProgramText → SettingsValue → Extras → Answer → Type 0
IsWorkersRun p s extras a = IsWholeRun p s extras a × (is_paced p s a.journal ≡ true)

-- one by a list of entries has exactly these
abbrev pub IsReplayedRun : ProgramText → SettingsValue → Extras → List EntryValue → Answer → Type 0
IsReplayedRun p s extras entries a = IsWholeRun p s extras a × (a.journal ≡ entries)

-- OUT OF MEMORY DURING A RUN: the value returned represents the run so far

abbrev pub LeavesPaced : ProgramText → SettingsValue → List EntryValue → Option SharedValue → Type 0
LeavesPaced p s journal shared = ReturnsRun p s journal shared × (is_paced p s journal ≡ true)

abbrev pub LeavesPrefix : ProgramText → SettingsValue → List EntryValue → List EntryValue → Option SharedValue → Type 0
LeavesPrefix p s entries journal shared = ReturnsRun p s journal shared × IsPrefix journal entries
