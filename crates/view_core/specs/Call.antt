-- A whole call.
use Rattle.std.specs.Prelude.{Option}
use Rattle.view_core.specs.Common.{ViewCall, CallStatus, SourceState, Streams, EndsWithReply, IsWholeCall}
use Rattle.view_core.specs.Views.{ShowsView, reads}

-- a whole call that asks for this, of a source and the streams; `WriteFails` says that writing failed
abbrev pub AnswersView : Option ViewCall → CallStatus → SourceState → SourceState → Streams → Streams → Type 0 → Type 0
AnswersView asked status source left before after WriteFails = IsWholeCall (reads asked) (λ input. EndsWithReply (ShowsView asked input) status before after) WriteFails status source left
