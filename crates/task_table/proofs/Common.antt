-- The names of lower crates and of the specifications that these proofs use. Declares nothing.
pub use Rattle.run_journal.proofs.Replays.{cut}
pub use Rattle.run_journal.specs.BookValue.{BookValue}
pub use Rattle.run_journal.specs.below.hh_lang.{ProgramText}
pub use Rattle.run_journal.specs.below.or_no_memory.{Reports}
pub use Rattle.run_journal.specs.below.run_ledger.{Ledger, after, after_all, ledger_of, first_refused_from, first_refused, opening, end_of, refused_as_run}
pub use Rattle.run_journal.specs.below.run_trace.{EntryValue}
pub use Rattle.run_report.proofs.Sums.{accounts_on, refused_on}
pub use Rattle.run_timeline.proofs.Loops.{fails_whole}
pub use Rattle.std.proofs.Common.{◌≡◌, ◌<◌, ◌+◌, ℕ, List, ◌++◌, length, drop, get_or, ap, sym, ◌∙◌, append_assoc, rules, refl, false, Err, subst}
pub use Rattle.std.proofs.lemmas.List.{drop_more}
pub use Rattle.std.proofs.lemmas.Result.{err_from_is_err_and}
pub use Rattle.std.specs.Prelude.{slice_get, IfErr}
pub use Rattle.task_table.specs.Lines.{words_onto}
pub use Rattle.task_table.specs.Rows.{rows_with, rows_from}
pub use Rattle.task_table.specs.Table.{task_row_line, task_row_lines, first_line, rows_of}
pub use Rattle.task_table.specs.declared.row.TaskRow.{TaskRow}
