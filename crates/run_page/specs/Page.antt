-- A run as a page.
use Rattle.std.specs.Prelude.{ℕ, Option, Some, None, List, [], ◌++◌}
use Rattle.hh_lang.specs.Form.{ProgramText}
use Rattle.run_trace.specs.Entry.{EntryValue}
use Rattle.run_trace.specs.Settings.{SettingsValue}
use Rattle.run_ledger.specs.declared.data.RunEnd.{RunEnd}
use Rattle.run_ledger.specs.Journals.{opening, end_of}
use Rattle.page_data.specs.Run.{settings_and_start, entries_from, end_data}
use Rattle.page_frame.specs.Frame.{frame_head, tail}

abbrev pub end_member : Option RunEnd → List ℕ
end_member None = []
end_member (Some e) = end_data e

-- a run: its settings, where it starts, its entries and its end
abbrev pub page_run : ProgramText → SettingsValue → List EntryValue → List ℕ
page_run p s journal = settings_and_start p s ++ entries_from p s (opening p s) journal ++ end_member (end_of p s journal)

-- the page of a run of this title, whose input has these bytes
unfoldable pub page : List ℕ → List ℕ → ProgramText → SettingsValue → List EntryValue → List ℕ
page title input p s journal = frame_head title input ++ page_run p s journal ++ tail
