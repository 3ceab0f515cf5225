-- What is known of a call that has no result.
use Rattle.std.specs.Prelude.{◌≡◌, Option, Some}
use Rattle.or_no_memory.specs.declared.OrNoMemory.{OrNoMemory}
use Rattle.or_no_memory.specs.declared.OrNoMemory.TheVariants.{Refused, NoMemory}

-- P of the reason for which it refuses what it was given; nothing if it is out of memory
abbrev pub OnRefused : {E : Type 0} → (E → Type 0) → OrNoMemory E → Type 0
OnRefused P (Refused e) = P e
OnRefused P NoMemory = Unit {0}

-- what it was given has this reason to be refused, which the call reports unless it is out of memory
abbrev pub Reports : {E : Type 0} → Option E → OrNoMemory E → Type 0
Reports reason = OnRefused (λ e. reason ≡ Some e)
