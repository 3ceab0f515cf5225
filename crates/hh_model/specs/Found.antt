-- What the machine's code looks up before it changes anything.
use Rattle.std.specs.Prelude.{Result, Ok, Err}
use Rattle.hh_model.specs.declared.data.Trap.{Trap}
use Rattle.hh_model.specs.Effect.{Effect, Traps}

-- goes on with what was found, or traps with the reason why it wasn't
abbrev pub or_trapped : {A : Type 0} → Result A Trap → (A → Effect) → Effect
or_trapped (Ok x) go = go x
or_trapped (Err trap) go = Traps trap
