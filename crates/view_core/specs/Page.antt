-- A run as a page.
use Rattle.std.specs.Prelude.{ℕ, Bool, true, false, Option, Some, None, List, ◌++◌, codes, length, nat_lt}
use Rattle.std.specs.Fmt.{decimal}
use Rattle.view_core.specs.Common.{ProgramText, EntryValue, SettingsValue, refused_as_run, InputFault, TraceInput, input_fault, settings_for, IsInput, refusal_of, RepliesRefusal, page, Done, Trace, Reply, Says}
use Rattle.view_core.specs.Shown.{ShowsWhole}

-- the title that is given, or the file's name
abbrev pub title_of : Option (List ℕ) → Option (List ℕ) → List ℕ
title_of (Some title) file = title
title_of None (Some name) = name
title_of None None = codes "a run"

-- a page has at most so many entries
abbrev pub most_entries : ℕ
most_entries = 20000

-- what is said of a trace that has more: how many, and what to do
abbrev pub trace_too_long : ℕ → List ℕ
trace_too_long n =
    codes "end: page refused entries " ++ decimal n ++ codes "; a page has at most 20000: run a smaller input, or use hhview timeline or tasks\n"

-- the page of a journal of this title, or its first refused entry, or that it is short
abbrev pub ShowsJournalPage : List ℕ → List ℕ → ProgramText → SettingsValue → List EntryValue → Reply → Type 0
ShowsJournalPage title input p s journal = ShowsWhole (Says Done (page title input p s journal)) (refused_as_run p s journal)

-- of a journal that is too long, how long it is
abbrev pub ShowsShortPage : Bool → List ℕ → List ℕ → ProgramText → SettingsValue → List EntryValue → Reply → Type 0
ShowsShortPage true title input p s journal = Says Trace (trace_too_long (length journal))
ShowsShortPage false title input p s journal = ShowsJournalPage title input p s journal

abbrev pub ShowsPageOf : List ℕ → SettingsValue → List ℕ → TraceInput → Reply → Type 0
ShowsPageOf title s input t =
    ShowsShortPage (nat_lt most_entries (length t.trace.entries)) title input t.program (settings_for s t) t.trace.entries

-- of a program with a trace, or its first fault
abbrev pub ShowsPageIn : List ℕ → SettingsValue → List ℕ → Option InputFault → Reply → Type 0
ShowsPageIn title s input None w = (t : TraceInput) × IsInput input t × ShowsPageOf title s input t w
ShowsPageIn title s input (Some f) w = RepliesRefusal (refusal_of f) w

abbrev pub ShowsPage : List ℕ → SettingsValue → List ℕ → Reply → Type 0
ShowsPage title s input = ShowsPageIn title s input (input_fault input)
