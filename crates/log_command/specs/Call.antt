-- A whole call.
use Rattle.std.specs.Prelude.{◌≡◌, ℕ, List, []}
use Rattle.whole_call.specs.declared.status.CallStatus.{CallStatus}
use Rattle.whole_call.specs.declared.status.AnswerStatus.TheVariants.{Done, Words}
use Rattle.whole_call.specs.declared.reply.Reply.{Reply}
use Rattle.whole_call.specs.Input.{SourceState}
use Rattle.whole_call.specs.Output.{Says}
use Rattle.whole_call.specs.Streams.{Streams, EndsWithReply}
use Rattle.whole_call.specs.Call.{IsCallWith}
use Rattle.log_form.specs.Text.{texts_of}
use Rattle.log_replies.specs.Shown.{ShowsLog}
use Rattle.log_command.specs.Words.{Asked, Nothing, Usage, Check, files_for, usage, words_line}
use Rattle.log_command.specs.Files.{AreInputsOf, HasTakenFiles}

-- what is written of the inputs
abbrev pub ShowsInputs : Asked → List (List ℕ) → Reply → Type 0
ShowsInputs Nothing inputs = Says Words words_line
ShowsInputs Usage inputs = Says Done usage
ShowsInputs (Check view names) inputs = ShowsLog names (texts_of inputs) view

-- a whole call that asks for this, of a source and the streams; `WriteFails` says that writing failed
abbrev pub AnswersLog : Asked → CallStatus → SourceState → SourceState → Streams → Streams → Type 0 → Type 0
AnswersLog a status source left before after WriteFails =
    IsCallWith (AreInputsOf (files_for a) source) (λ inputs. EndsWithReply (ShowsInputs a inputs) status before after) (files_for a ≡ []) (HasTakenFiles (files_for a) source left) WriteFails status source left
