-- A whole call.
use Rattle.std.specs.Prelude.{◌≡◌, ◌≢◌, ℕ, List}
use Rattle.io_traits.specs.Fault.{HasRisen}
use Rattle.whole_call.specs.declared.status.CallStatus.{CallStatus}
use Rattle.whole_call.specs.declared.status.CallStatus.TheVariants.{ReadFault, WriteFault, NoMemory}
use Rattle.whole_call.specs.Input.{Reads, ReadsNothing, SourceState, IsInputOf, HasTaken}

-- a call that has an input in A ended so: by its input, whose end `Ends` says; and with a fault only if one occurred
pub record IsCallWith {A : Type 0} (IsInput Ends : A → Type 0) (ReadsNone Taken WriteFails : Type 0) (status : CallStatus) (before after : SourceState) : Type 0 where
  -- it answered some input, whatever the source has
  pub answered : (input : A) × IsInput input × Ends input
  -- which it took whole, unless reading or an allocation failed; a source that isn't read is unchanged in any case
  pub taken : status ≢ ReadFault → status ≢ NoMemory → Taken
  pub untouched : ReadsNone → Taken
  -- reading failed only if something is read, and the source's count of faults rose
  pub read_fault : status ≡ ReadFault → (¬ ReadsNone) × HasRisen before.faults after.faults
  -- writing failed only if a sink did
  pub write_fault : status ≡ WriteFault → WriteFails

-- a call that reads this
abbrev pub IsWholeCall : Reads → (List ℕ → Type 0) → Type 0 → CallStatus → SourceState → SourceState → Type 0
IsWholeCall reads Ends WriteFails status before after =
    IsCallWith (IsInputOf reads before) Ends (reads ≡ ReadsNothing) (HasTaken reads before after) WriteFails status before after
