-- Which events are slices, and which slice is that of an entry.
use Rattle.std.specs.Prelude.{◌≡◌, ◌+◌, ℕ, Bool, Some, List, [], codes, length, slice_get, take}
use Rattle.std.specs.List.{filter}
use Rattle.std.specs.Str.{bytes_eq}
use Rattle.run_timeline.specs.Common.{ProgramText, EntryValue, SettingsValue, ledger_of, Json, Word, Object, Member}
use Rattle.run_timeline.specs.Entries.{slice, slice_name}
use Rattle.run_timeline.specs.Timeline.{events_of}

-- the third member of an event is its phase
abbrev pub phase_of : Json → List ℕ
phase_of (Object (Member name x (Member category y (Member phase (Word w) more)))) = w
phase_of _ = []

abbrev pub is_slice : Json → Bool
is_slice v = bytes_eq (phase_of v) (codes "X")

-- the slices among the events of a journal, in their order
abbrev pub slices_of : ProgramText → SettingsValue → List EntryValue → List Json
slices_of p s journal = filter is_slice (events_of p s journal)

-- each entry is exactly one slice, in the order of the journal: it has the name of the entry's kind and of where its steps
-- begin, lies in the lane of the entry's worker, and at the entry's place, one wide. So where a worker idles its lane is
-- empty
pub record SlicesFollow (p : ProgramText) (s : SettingsValue) (journal : List EntryValue) : Type 0 where
  pub count : length (slices_of p s journal) ≡ length journal
  pub each : (i : ℕ) (e : EntryValue) → slice_get journal i ≡ Some e → slice_get (slices_of p s journal) i ≡ Some (slice (slice_name p (ledger_of p s (take i journal)).machine e.kind) (i + 1) e)

abbrev pub SlicesAreEntries : Type 0
SlicesAreEntries = (p : ProgramText) (s : SettingsValue) (journal : List EntryValue) → SlicesFollow p s journal
