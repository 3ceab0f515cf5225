-- What a call writes.
use Rattle.std.specs.Prelude.{◌≡◌, ◌⊎◌, ℕ, List, Option}
use Rattle.io_traits.specs.Told.{with_more}
use Rattle.read_write_all.specs.Bytes.{WroteSome}
use Rattle.whole_call.specs.declared.status.AnswerStatus.{AnswerStatus}
use Rattle.whole_call.specs.declared.status.CallStatus.{CallStatus}
use Rattle.whole_call.specs.declared.status.CallStatus.TheVariants.{Answered, ReadFault, WriteFault, NoMemory}
use Rattle.whole_call.specs.declared.reply.Reply.{Reply}

-- these bytes, with this status
pub record Says (status : AnswerStatus) (bytes : List ℕ) (r : Reply) : Type 0 where
  pub status_is : r.status ≡ status
  pub bytes_are : r.bytes ≡ bytes

-- a reply was written to a sink, all of it; or the sink failed after a prefix
abbrev pub WroteReply : Reply → CallStatus → Option (List ℕ) → Option (List ℕ) → Type 0
WroteReply r status before after = ((status ≡ Answered r.status) × (after ≡ with_more before r.bytes)) ⊎ ((status ≡ WriteFault) × WroteSome before after r.bytes)

-- reading or an allocation failed, and what was written is unchanged
pub record EndsSilent {A : Type 0} (status : CallStatus) (before after : A) : Type 0 where
  pub cause : (status ≡ ReadFault) ⊎ (status ≡ NoMemory)
  pub nothing : after ≡ before
