-- The result of a replay.
use Rattle.std.specs.Prelude.{◌≡◌, true, false, Some, None, List, Result, Ok, Err}
use Rattle.heap_reading.specs.below.hh_lang.{ProgramText}
use Rattle.heap_reading.specs.below.run_trace.{EntryValue, SettingsValue}
use Rattle.heap_reading.specs.below.run_ledger.{IsPrefix, first_refused, is_legal}
use Rattle.journal_replay.specs.declared.replaying.ReplayStop.{ReplayStop}
use Rattle.journal_replay.specs.declared.replaying.ReplayStop.TheVariants.{NoMemory, RefusedAt}
use Rattle.journal_replay.specs.WorldValue.{WorldValue}

-- the world runs this program with these settings, and its journal is legal and a prefix of the entries
pub record HasCome (p : ProgramText) (s : SettingsValue) (entries : List EntryValue) (x : WorldValue) : Type 0 where
  pub program : x.shared.program ≡ p
  pub settings : x.shared.settings ≡ s
  pub prefix : IsPrefix x.shared.journal.items entries
  pub legal : is_legal p s x.shared.journal.items ≡ true

-- all entries are made: none is refused
pub record HasReplayed (p : ProgramText) (s : SettingsValue) (entries : List EntryValue) (x : WorldValue) : Type 0 where
  pub program : x.shared.program ≡ p
  pub settings : x.shared.settings ≡ s
  pub journal : x.shared.journal.items ≡ entries
  pub goes : x.stopped ≡ false
  pub none : first_refused p s entries ≡ None

-- the first refused entry stops it, with its cause; or a failed allocation, after some entries
abbrev pub IsReplayStop : ProgramText → SettingsValue → List EntryValue → ReplayStop WorldValue → Type 0
IsReplayStop p s entries (RefusedAt r) = first_refused p s entries ≡ Some r
IsReplayStop p s entries (NoMemory world) = HasCome p s entries world

-- the result of a replay of these entries
abbrev pub ReplayGives : ProgramText → SettingsValue → List EntryValue → Result WorldValue (ReplayStop WorldValue) → Type 0
ReplayGives p s entries (Ok x) = HasReplayed p s entries x
ReplayGives p s entries (Err stop) = IsReplayStop p s entries stop
