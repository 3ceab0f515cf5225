-- The names of lower crates and of the specifications that these proofs use. Declares nothing.
pub use Rattle.fault_lines.specs.below.program_reader.{TextFault}
pub use Rattle.heap_graph.specs.below.image_check.{ImageFault}
pub use Rattle.refusal_replies.proofs.below.whole_call.{with_input, without_input, without_memory, gives_ends, silent_without_input, silent_without_memory}
pub use Rattle.refusal_replies.specs.below.whole_call.{CallStatus, ReadFault, WriteFault, NoMemory, Reply, SourceState, Streams, WritesReply, Done, Says, AnswerStatus}
pub use Rattle.run_page.specs.Page.{page}
pub use Rattle.run_page.specs.below.run_ledger.{RefusedAt, refused_as_run}
pub use Rattle.run_page.specs.below.run_trace.{EntryValue, SettingsValue}
pub use Rattle.run_page.specs.below.trace_input.{TraceInput, settings_for}
pub use Rattle.std.proofs.Common.{◌≡◌, sym, subst, [], ℕ, List, ◌∙◌, rules}
pub use Rattle.std.proofs.lemmas.Result.{IfOk-weaker}
pub use Rattle.std.specs.Prelude.{◌≢◌, Option, None, Result, IfOk, Some}
pub use Rattle.std.specs.declared.alloc.AllocError.{AllocError}
pub use Rattle.view_arguments.specs.declared.line.RunView.{RunView}
pub use Rattle.view_arguments.specs.declared.line.ViewCall.{ViewCall}
pub use Rattle.view_core.specs.Call.{AnswersView}
pub use Rattle.view_core.specs.Faults.{SaysFaults}
pub use Rattle.view_core.specs.Shown.{ShowsJournal, ShowsWhole, ShowsTrace, ShowsImage}
pub use Rattle.view_core.specs.Views.{ShowsView, reads}
