-- The names of lower crates that these specifications use. Declares nothing.
pub use Rattle.fault_lines.specs.Shown.{shown_faults}
pub use Rattle.fault_lines.specs.below.program_reader.{TextFault}
pub use Rattle.heap_graph.specs.Graph.{graph_of}
pub use Rattle.heap_graph.specs.below.image_check.{ImageFault, image_fault}
pub use Rattle.heap_graph.specs.below.text_lines.{most_bytes}
pub use Rattle.schedule_report.specs.below.race_groups.{RacesAreShown, ShownRaces}
pub use Rattle.refusal_replies.specs.Refused.{RepliesRefusal}
pub use Rattle.refusal_replies.specs.below.refusal_lines.{Source, refusal_of, Entry, Image, Words}
pub use Rattle.refusal_replies.specs.below.whole_call.{CallStatus, SourceState, Streams, EndsWithReply, IsWholeCall, Done, Reply, Says, Trace, AnswerStatus, Races, Reads, ReadsNothing, ReadsUpTo}
pub use Rattle.run_log.specs.Log.{log_of}
pub use Rattle.run_page.specs.Page.{page}
pub use Rattle.run_page.specs.below.hh_lang.{ProgramText}
pub use Rattle.run_page.specs.below.run_ledger.{refused_as_run, RefusedAt, end_line}
pub use Rattle.run_page.specs.below.run_trace.{EntryValue, SettingsValue}
pub use Rattle.run_page.specs.below.trace_input.{InputFault, TraceInput, input_fault, settings_for, IsInput}
pub use Rattle.schedule_report.specs.Schedules.{IsAnswer, verdict_of}
pub use Rattle.schedule_report.specs.Text.{clashes_text}
pub use Rattle.schedule_report.specs.declared.data.Clashes.{Clashes}
pub use Rattle.schedule_report.specs.declared.data.Verdict.{Verdict}
pub use Rattle.schedule_report.specs.declared.data.Verdict.TheVariants.{Agree, AgreeButForPrints, MayDiffer}
pub use Rattle.task_table.specs.Table.{table}
pub use Rattle.task_table.specs.below.run_timeline.{timeline}
pub use Rattle.view_arguments.specs.declared.line.Picture.{Picture}
pub use Rattle.view_arguments.specs.declared.line.Picture.TheVariants.{Heaps, Run, Page, Faults}
pub use Rattle.view_arguments.specs.declared.line.RunView.{RunView}
pub use Rattle.view_arguments.specs.declared.line.RunView.TheVariants.{Timeline, Tasks, Schedules, Log}
pub use Rattle.view_arguments.specs.declared.line.ViewCall.{ViewCall}
pub use Rattle.view_arguments.specs.declared.line.ViewCall.TheVariants.{Usage, Of}
