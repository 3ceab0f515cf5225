-- How a call ends whose words ask for nothing, or weren't read.
use Rattle.view_core.proofs.Common.{◌≡◌, sym, subst, [], ◌≢◌, Option, None, Result, IfOk, AllocError, ViewCall, CallStatus, ReadFault, WriteFault, NoMemory, Reply, SourceState, Streams, WritesReply, ShowsView, reads, AnswersView}
use Rattle.refusal_replies.proofs.below.whole_call.Calls as calls

-- an allocation failed before the arguments were read
pub unread_words : (asked : Option ViewCall) (source : SourceState) (streams : Streams) (WriteFails : Type 0) → AnswersView asked NoMemory source source streams streams WriteFails
unread_words asked source streams W = calls.without_memory _ _ W _ _ (λ input. calls.silent_without_memory (ShowsView asked input) streams) (calls.nothing_taken (reads asked) source)

module _ (asked : Option ViewCall) (found : Result Reply AllocError) (status : CallStatus) (source : SourceState) (before after : Streams) (WriteFails : Type 0) where
  -- words that ask for nothing were refused
  pub refused_words : asked ≡ None → IfOk found (ShowsView None []) → WritesReply found status before after → status ≢ ReadFault → (status ≡ WriteFault → WriteFails) → AnswersView asked status source source before after WriteFails
  refused_words is refused given read fails =
      subst (λ v. AnswersView v status source source before after WriteFails) (sym is)
      (calls.with_input _ _ WriteFails _ _ status [] (calls.nothing_read source) (calls.gives_ends (ShowsView None []) found status before after refused given) read fails)
