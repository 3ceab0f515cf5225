-- A run as a log.
use Rattle.std.specs.Prelude.{ℕ, Option, Some, List, [], ◌∷◌, ◌++◌}
use Rattle.run_log.specs.Common.{ProgramText, Done, start, EntryValue, SettingsValue, field_limit, RunEnd, Machine, end_of, LogLine}
use Rattle.log_lines.specs.declared.line.LogLine.TheVariants as lines
use Rattle.run_log.specs.Writing.{written, all_written}
use Rattle.run_log.specs.Sites.{sites_of}
use Rattle.run_log.specs.Lines.{lines_from}

-- the log is whole if the run ended by the return of main; otherwise it was cut off
abbrev pub end_lines : Option RunEnd → List LogLine
end_lines (Some (Machine Done)) = lines.End ∷ []
end_lines _ = []

-- the lines of a journal's entries
abbrev pub lines_of : ProgramText → SettingsValue → List EntryValue → List LogLine
lines_of p s journal = lines_from p (start p (field_limit s.version)) journal

-- the version, the names of the program's lines, what its tasks do, and the end
unfoldable pub log_of : ProgramText → SettingsValue → List EntryValue → List ℕ
log_of p s journal = written lines.Version ++ sites_of p ++ all_written (lines_of p s journal) ++ all_written (end_lines (end_of p s journal))
