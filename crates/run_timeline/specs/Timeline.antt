-- A run as a timeline.
use Rattle.std.specs.Prelude.{ℕ, zero, suc, ◌+◌, List, [], ◌∷◌, ◌++◌, codes}
use Rattle.run_timeline.specs.Common.{EntryValue, SettingsValue, ProgramText, Ledger, after, opening, Json, Array, Object, Word, NoMember, Member, json, values}
use Rattle.run_timeline.specs.Words.{counts_of}
use Rattle.run_timeline.specs.Events.{process, lane}
use Rattle.run_timeline.specs.Entries.{slice_name, entry_events}

-- the events of a journal from the entry of this number on
abbrev pub events_from : ProgramText → SettingsValue → Ledger → ℕ → List EntryValue → List Json
events_from p s l n [] = []
events_from p s l n (e ∷ es) =
    entry_events p (slice_name p l.machine e.kind) (counts_of l) (after p s l e) n e
    ++ events_from p s (after p s l e) (n + 1) es

abbrev pub events_of : ProgramText → SettingsValue → List EntryValue → List Json
events_of p s journal = events_from p s (opening p s) 1 journal

-- the lanes of w workers
abbrev pub lanes : ℕ → List Json
lanes zero = []
lanes (suc w) = lanes w ++ lane w ∷ []

-- the text of a journal's timeline
abbrev pub timeline : ProgramText → SettingsValue → List EntryValue → List ℕ
timeline p s journal =
    json (Object (
    Member (codes "traceEvents") (Array (values (process ∷ (lanes s.workers ++ events_of p s journal)))) (
    Member (codes "displayTimeUnit") (Word (codes "ms")) NoMember)))
    ++ 10 ∷ []
