-- What a call writes to which stream.
use Rattle.std.specs.Prelude.{◌≡◌, ◌⊎◌, ℕ, List, Option, Result, Ok, Err}
use Rattle.std.specs.declared.alloc.AllocError.{AllocError}
use Rattle.whole_call.specs.declared.status.AnswerStatus.{AnswerStatus}
use Rattle.whole_call.specs.declared.status.AnswerStatus.TheVariants.{Done, Races, CutOff}
use Rattle.whole_call.specs.declared.status.CallStatus.{CallStatus}
use Rattle.whole_call.specs.declared.status.CallStatus.TheVariants.{NoMemory}
use Rattle.whole_call.specs.declared.reply.Reply.{Reply}
use Rattle.whole_call.specs.declared.streams.Stream.{Stream}
use Rattle.whole_call.specs.declared.streams.Stream.TheVariants.{Out, Error}
use Rattle.whole_call.specs.Output.{EndsSilent, WroteReply}

-- what standard output and standard error took
pub record Streams : Type 0 where
  pub out : Option (List ℕ)
  pub error : Option (List ℕ)

-- a report goes to standard output, and a refusal to standard error
abbrev pub stream_of : AnswerStatus → Stream
stream_of Done = Out
stream_of Races = Out
stream_of CutOff = Out
stream_of _ = Error

-- a reply was written to a stream, and nothing to the other one
abbrev pub WroteTo : Stream → Reply → CallStatus → Streams → Streams → Type 0
WroteTo Out r status before after = WroteReply r status before.out after.out × (after.error ≡ before.error)
WroteTo Error r status before after = WroteReply r status before.error after.error × (after.out ≡ before.out)

abbrev pub DeliversReply : Reply → CallStatus → Streams → Streams → Type 0
DeliversReply r = WroteTo (stream_of r.status) r

-- a reply that was made was written, or an allocation failed
abbrev pub WritesReply : Result Reply AllocError → CallStatus → Streams → Streams → Type 0
WritesReply (Ok r) status before after = DeliversReply r status before after
WritesReply (Err e) status before after = (status ≡ NoMemory) × (after ≡ before)

-- a reply with P was written; or reading or an allocation failed, and nothing was written
abbrev pub EndsWithReply : (Reply → Type 0) → CallStatus → Streams → Streams → Type 0
EndsWithReply P status before after = EndsSilent status before after ⊎ ((r : Reply) × P r × DeliversReply r status before after)
