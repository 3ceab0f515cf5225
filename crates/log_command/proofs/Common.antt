-- The names of lower crates and of the specifications that these proofs use. Declares nothing.
pub use Rattle.io_traits.specs.Fault.{HasRisen}
pub use Rattle.log_command.specs.Call.{AnswersLog, ShowsInputs}
pub use Rattle.log_command.specs.Files.{AreInputsOf, HasTakenFiles, HasReadFiles, most_file_bytes, reads_file, AreFirstInputs, HasTakenFirst, HasReadFirst}
pub use Rattle.log_command.specs.Words.{Asked, Usage, Check, asked_of_log, asked_by, files_for, Nothing}
pub use Rattle.log_form.specs.Text.{text_of, texts_of, is_zero}
pub use Rattle.log_replies.specs.Shown.{ShowsLog}
pub use Rattle.log_request.specs.Request.{is_usage, log_request}
pub use Rattle.log_request.specs.declared.view.LogView.{LogView}
pub use Rattle.std.proofs.Common.{◌≡◌, ◌∙◌, ℕ, List, [], length, refl, sym, ap, subst, arith, Bool, true, false, Option, ◌<◌, ◌≤◌, ◌+◌, zero, suc, ◌∷◌, ◌++◌, take, get_or, map, ◌⊎◌, inl, inr, Some, length-append, string_bytes, Global}
pub use Rattle.std.proofs.Math.ListN.{get_or-append}
pub use Rattle.std.proofs.Math.Nat.{eq-or-lt_of_le}
pub use Rattle.std.proofs.Math.Seq.{get_or-append_seam}
pub use Rattle.std.proofs.lemmas.List.{map-append, get_or-map}
pub use Rattle.std.specs.Prelude.{◌≢◌, Result, IfOk, None}
pub use Rattle.std.specs.declared.alloc.AllocError.{AllocError}
pub use Rattle.text_lines.proofs.Runs.{position_at, position_end}
pub use Rattle.whole_call.proofs.Calls.{call_with_input, call_without_input, call_without_memory, gives_ends, silent_without_input, silent_without_memory, some_input}
pub use Rattle.whole_call.specs.Input.{SourceState, ReadsUpTo, IsInputOf, HasTaken, HasRead}
pub use Rattle.whole_call.specs.Streams.{Streams, EndsWithReply, WritesReply}
pub use Rattle.whole_call.specs.declared.reply.Reply.{Reply}
pub use Rattle.whole_call.specs.declared.status.CallStatus.{CallStatus}
pub use Rattle.whole_call.specs.declared.status.CallStatus.TheVariants.{ReadFault, WriteFault, NoMemory}
