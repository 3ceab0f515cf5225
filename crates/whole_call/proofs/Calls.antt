-- How calls end: out of memory, without their input, and with it.
use Rattle.std.proofs.Common.{◌≡◌, ◌∙◌, ℕ, List, [], take, refl, sym, ap, arith, inl, inr}
use Rattle.std.specs.Prelude.{◌≢◌, Option, Some, None, Result, Ok, Err, IfOk}
use Rattle.std.specs.declared.alloc.AllocError.{AllocError}
use Rattle.std.proofs.lemmas.List.{length-take}
use Rattle.io_traits.specs.Fault.{HasRisen}
use Rattle.whole_call.specs.declared.status.CallStatus.{CallStatus}
use Rattle.whole_call.specs.declared.status.CallStatus.TheVariants.{ReadFault, WriteFault, NoMemory}
use Rattle.whole_call.specs.declared.reply.Reply.{Reply}
use Rattle.whole_call.specs.Input.{Reads, ReadsNothing, ReadsUpTo, SourceState, IsInputOf, HasTaken, HasRead, bytes_for, most_of}
use Rattle.whole_call.specs.Streams.{Streams, EndsWithReply, WritesReply}
use Rattle.whole_call.specs.Call.{IsWholeCall, IsCallWith}

-- INPUTS

abbrev InputAt : Reads → SourceState → Type 0
InputAt reads before = (input : List ℕ) × IsInputOf reads before input

some_item : (x y : List ℕ) → Some x ≡ Some y → x ≡ y
some_item x y e = cc

some_is_told : (x : List ℕ) → None ≡ Some x → ⊥
some_is_told x e = cc

input_at : (reads : Reads) (before : SourceState) (o : Option (List ℕ)) → bytes_for reads before ≡ o → InputAt reads before
input_at reads before (Some whole) e = (
  take (most_of reads) whole,
  record {
    within = omega (arith, length-take (most_of reads) whole);
    first = λ other h. ap (take (most_of reads)) (some_item whole other (sym e ∙ h));
  },
)
input_at reads before None e = ([], record { within = omega arith; first = λ other h. absurd (some_is_told other (sym e ∙ h)) })

-- whatever the source has, there is an input
pub some_input : (reads : Reads) (before : SourceState) → InputAt reads before
some_input reads before = input_at reads before (bytes_for reads before) refl

-- an untouched source is unchanged
pub nothing_taken : (reads : Reads) (before : SourceState) → reads ≡ ReadsNothing → HasTaken reads before before
nothing_taken ReadsNothing before e = refl
nothing_taken (ReadsUpTo limit file) before e = absurd (let f : ReadsUpTo limit file ≡ ReadsNothing = e in cc)

-- CALLS

module _ {A : Type 0} (IsInput EndsWithReply : A → Type 0) (ReadsNone Taken WriteFails : Type 0) (before after : SourceState) where
  -- an allocation failed before the input was there; this is one
  pub call_without_memory : (input : A) → IsInput input → EndsWithReply input → (ReadsNone → Taken) → IsCallWith IsInput EndsWithReply ReadsNone Taken WriteFails NoMemory before after
  call_without_memory input is ends untouched = record {
    answered = (input, is, ends);
    taken = λ read memory. absurd (memory refl);
    untouched = untouched;
    read_fault = λ e. absurd (let f : NoMemory ≡ ReadFault = e in cc);
    write_fault = λ e. absurd (let f : NoMemory ≡ WriteFault = e in cc);
  }

  -- reading failed; this is an input
  pub call_without_input : (input : A) → IsInput input → EndsWithReply input → (¬ ReadsNone) → HasRisen before.faults after.faults → IsCallWith IsInput EndsWithReply ReadsNone Taken WriteFails ReadFault before after
  call_without_input input is ends some risen = record {
    answered = (input, is, ends);
    taken = λ read memory. absurd (read refl);
    untouched = λ e. absurd (some e);
    read_fault = λ e. (some, risen);
    write_fault = λ e. absurd (let f : ReadFault ≡ WriteFault = e in cc);
  }

  -- the input was read and answered
  pub call_with_input : (status : CallStatus) (input : A) → IsInput input → Taken → EndsWithReply input → status ≢ ReadFault → (status ≡ WriteFault → WriteFails) → IsCallWith IsInput EndsWithReply ReadsNone Taken WriteFails status before after
  call_with_input status input is taken ends none fails = record {
    answered = (input, is, ends);
    taken = λ r m. taken;
    untouched = λ e. taken;
    read_fault = λ e. absurd (none e);
    write_fault = fails;
  }

module _ (reads : Reads) (EndsWithReply : List ℕ → Type 0) (WriteFails : Type 0) (before after : SourceState) where
  -- an allocation failed before the input was there
  pub without_memory : ((input : List ℕ) → EndsWithReply input) → (reads ≡ ReadsNothing → HasTaken reads before after) → IsWholeCall reads EndsWithReply WriteFails NoMemory before after
  without_memory ends untouched =
      let at = some_input reads before in
      call_without_memory (IsInputOf reads before) EndsWithReply (reads ≡ ReadsNothing) (HasTaken reads before after) WriteFails before after at.0 at.1 (ends at.0) untouched

  -- reading failed
  pub without_input : ((input : List ℕ) → EndsWithReply input) → reads ≢ ReadsNothing → HasRisen before.faults after.faults → IsWholeCall reads EndsWithReply WriteFails ReadFault before after
  without_input ends some risen =
      let at = some_input reads before in
      call_without_input (IsInputOf reads before) EndsWithReply (reads ≡ ReadsNothing) (HasTaken reads before after) WriteFails before after at.0 at.1 (ends at.0) some risen

  -- the input was read and answered
  pub with_input : (status : CallStatus) (input : List ℕ) → HasRead reads before after input → EndsWithReply input → status ≢ ReadFault → (status ≡ WriteFault → WriteFails) → IsWholeCall reads EndsWithReply WriteFails status before after
  with_input status input read ends none fails =
      call_with_input (IsInputOf reads before) EndsWithReply (reads ≡ ReadsNothing) (HasTaken reads before after) WriteFails before after status input read.is read.taken ends none fails

-- nothing is read
pub nothing_read : (before : SourceState) → HasRead ReadsNothing before before []
nothing_read before = record {
  is = record { within = omega arith; first = λ whole e. (let f = some_item [] whole e in ap (take 0) f) };
  taken = refl;
}

-- STREAMS

-- with the reply that was made, or out of memory
pub gives_ends : (P : Reply → Type 0) (found : Result Reply AllocError) (status : CallStatus) (before after : Streams) → IfOk found P → WritesReply found status before after → EndsWithReply P status before after
gives_ends P (Ok r) status before after is given = inr (r, is, given)
gives_ends P (Err e) status before after is given = inl (record { cause = inr given.0; nothing = given.1 })

pub silent_without_memory : (P : Reply → Type 0) (streams : Streams) → EndsWithReply P NoMemory streams streams
silent_without_memory P streams = inl (record { cause = inr refl; nothing = refl })

pub silent_without_input : (P : Reply → Type 0) (streams : Streams) → EndsWithReply P ReadFault streams streams
silent_without_input P streams = inl (record { cause = inl refl; nothing = refl })
