-- The results of a call by the ledger's refusal, and the journal after an entry.
use Rattle.std.specs.Prelude.{◌≡◌, ◌++◌, ◌∷◌, [], Option, Some, None, Result, Ok, Err}
use Rattle.core_invariant.specs.Common.{EntryValue, Refused, refusal, with_places, Private}
use Rattle.core_invariant.specs.declared.answer.NotEntered.{NotEntered}
use Rattle.core_invariant.specs.declared.answer.NotEntered.TheVariants.{NoMemory, Refuses}
use Rattle.core_invariant.specs.declared.answer.NotRan.{NotRan}
use Rattle.core_invariant.specs.SharedValue.{SharedValue, accounts}

-- why an entry is refused after the journal, or none
abbrev pub refused : SharedValue → EntryValue → Option Refused
refused w e = refusal w.program w.settings (accounts w) e

-- why a call was refused
abbrev pub refusal_of_result : {A : Type 0} → Result A Refused → Option Refused
refusal_of_result (Ok x) = None
refusal_of_result (Err cause) = Some cause

-- a call that can run out of memory is refused if and only if the ledger refuses
abbrev pub IsCaused : NotEntered → Option Refused → Type 0
IsCaused (Refuses cause) why = why ≡ Some cause
IsCaused NoMemory why = why ≡ None

abbrev pub EntersOrRefuses : {A : Type 0} → Result A NotEntered → Option Refused → Type 0
EntersOrRefuses (Ok x) why = why ≡ None
EntersOrRefuses (Err e) why = IsCaused e why

-- the same part with other spare capacities
abbrev pub IsSamePart : Private → Private → Type 0
IsSamePart p q = q ≡ record p { heap = with_places p.heap q.heap.slots q.heap.spare }

-- the journal is extended by the entry, with the same program and settings, and the run is halted if it was
pub record Enters (w after : SharedValue) (e : EntryValue) : Type 0 where
  pub journal : after.journal.items ≡ w.journal.items ++ e ∷ []
  pub program : after.program ≡ w.program
  pub settings : after.settings ≡ w.settings
  pub halted : after.halted ≡ w.halted

-- for steps, which can run out of memory
abbrev pub RanAnswers : {A : Type 0} → Result A NotRan → Option Refused → Type 0
RanAnswers (Ok x) why = why ≡ None
RanAnswers (Err e) why = IsCaused e.cause why
