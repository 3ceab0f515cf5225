-- The names of lower crates and of the specifications that these proofs use. Declares nothing.
pub use Rattle.command_answers.specs.Answers.{AnswersTrace, IsImaged, IsReplay, Refuses, WhereWhole, extras_of, short_of}
pub use Rattle.command_answers.specs.Delivery.{IsWanted}
pub use Rattle.command_answers.specs.Runs.{IsReplayedRun, LeavesPrefix}
pub use Rattle.command_answers.specs.declared.answer.Answer.{Answer}
pub use Rattle.command_answers.specs.declared.wanted.Wanted.{Wanted}
pub use Rattle.command_line.specs.declared.line.Options.{Options}
pub use Rattle.journal_replay.specs.Replay.{HasReplayed, IsReplayStop, ReplayGives}
pub use Rattle.journal_replay.specs.WorldValue.{WorldValue}
pub use Rattle.journal_replay.specs.below.core_invariant.{SharedValue, accounts}
pub use Rattle.journal_replay.specs.declared.replaying.ReplayStop.{ReplayStop}
pub use Rattle.made_program_laws.specs.below.hh_lang.{ProgramText}
pub use Rattle.made_program_laws.specs.below.run_trace.{EntryValue, SettingsValue}
pub use Rattle.made_program_laws.specs.below.trace_input.{TraceInput, settings_for}
pub use Rattle.race_report.specs.below.run_ledger.{RefusedAt, Report, first_refused, ledger_of, opening, refused_as_run, report_lines, report_of}
pub use Rattle.refusal_lines.proofs.below.run_report.{report_shown, whole_text}
pub use Rattle.refusal_lines.specs.below.run_report.{Extras, report_from, report_part, totals_from}
pub use Rattle.refusal_lines.specs.declared.refusal.Refusal.TheVariants.{Entry}
pub use Rattle.run_answers.specs.Replayed.{AnswersReplayed, StandsReplayed, remains_by}
pub use Rattle.run_statistics.specs.JournalCounts.{totals_of}
pub use Rattle.std.proofs.Common.{◌≡◌, ◌∙◌, ℕ, Bool, true, List, Some, ap, length, refl, subst, sym}
pub use Rattle.std.proofs.lemmas.Result.{IfErr-weaker, IfOk-weaker}
pub use Rattle.std.specs.Prelude.{Err, IfOk, Ok, Result, string_bytes}
