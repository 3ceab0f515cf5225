-- Why the end of a leaf collection is refused, or steps that give a part up.
use Rattle.std.specs.Prelude.{◌≡◌, Option, Some, None, Result, Ok, Err}
use Rattle.leaf_collections.specs.below.run_ledger.{Refused}
use Rattle.leaf_collections.specs.below.core_invariant.{IsCaused}
use Rattle.entry_calls.specs.declared.answers.NotEnded.{NotEnded}
use Rattle.entry_calls.specs.declared.answers.NotLeft.{NotLeft}

-- why the end was refused
abbrev pub end_cause : {A : Type 0} → Result A NotEnded → Option Refused
end_cause (Ok x) = None
end_cause (Err e) = Some e.cause

-- for steps with one that gives the part up, which can run out of memory
abbrev pub LeavingAnswers : {A : Type 0} → Result A NotLeft → Option Refused → Type 0
LeavingAnswers (Ok x) why = why ≡ None
LeavingAnswers (Err e) why = IsCaused e.cause why
