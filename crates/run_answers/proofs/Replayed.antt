-- The answer at some point of a replay.
use Rattle.run_answers.proofs.Common.{◌≡◌, List, sym, subst, Some, Result, Ok, Err, EntryValue, SettingsValue, TraceInput, settings_for, WorldValue, ReplayStop, ReplayGives, Options, Answer, Wanted, AnswersReplayed, AnswersTrace, IsReplay, StandsReplayed, extras_of, IsWanted, remains_by, LeavesPrefix}
use Rattle.journal_replay.specs.declared.replaying.ReplayStop.TheVariants.{RefusedAt as Stops, NoMemory as WantsMemory}
use Rattle.command_answers.proofs.Runs.{all_prefix, entries_left, made_told, refused_first}
use Rattle.command_answers.proofs.Traces.{trace_told}

pub replayed_told : (o : Options) (t : TraceInput) (s : SettingsValue) (entries : List EntryValue) (r : Result WorldValue (ReplayStop WorldValue)) (a : Answer) → s ≡ settings_for o.settings t → entries ≡ t.trace.entries
    → ReplayGives t.program s entries r → AnswersReplayed (extras_of o) r a → AnswersTrace (IsReplay o) o.settings t a
replayed_told o t s entries (Ok x) a limits is has h = made_told o t s entries x.shared a limits is has.program has.settings has.journal h
replayed_told o t s entries (Err (Stops r)) a limits is stop h = trace_told (IsReplay o) o.settings t s entries (Some r) a limits is (refused_first t.program s entries r stop) h
replayed_told o t s entries (Err (WantsMemory x)) a limits is come h = absurd h

pub replayed_left : (o : Options) (t : TraceInput) (s : SettingsValue) (entries : List EntryValue) (r : Result WorldValue (ReplayStop WorldValue)) (found : Wanted) → s ≡ settings_for o.settings t → entries ≡ t.trace.entries
    → ReplayGives t.program s entries r → StandsReplayed r → found ≡ remains_by r → IsWanted (LeavesPrefix t.program (settings_for o.settings t) t.trace.entries) found
replayed_left o t s entries (Ok x) found limits is has stands e =
    entries_left o t s entries x.shared found limits is stands has.program has.settings (all_prefix x.shared.journal.items entries has.journal) e
replayed_left o t s entries (Err (Stops r)) found limits is stop stands e = subst (IsWanted (LeavesPrefix t.program (settings_for o.settings t) t.trace.entries)) (sym e) tt
replayed_left o t s entries (Err (WantsMemory x)) found limits is come stands e = entries_left o t s entries x.shared found limits is stands come.program come.settings come.prefix e
