-- What a set holds, as contracts see it.
use Rattle.std.specs.Prelude.{Bool, []}
use Rattle.write_barrier.specs.declared.sets.Noted.{Noted}
use Rattle.write_barrier.specs.declared.sets.Form.{Form}
use Rattle.write_barrier.specs.declared.sets.Form.TheVariants.{Bare, Full}

-- an empty set without capacity; whether its heap keeps references is known all the same
abbrev pub bare_noted : Bool → Noted
bare_noted keeps = record { remembered = record { sources = []; slots = 0; spare = 0; numbers = 0 }; kept = record { items = []; room = 0 }; keeps = keeps }

abbrev pub in_full : Form → Noted
in_full (Bare keeps) = bare_noted keeps
in_full (Full noted) = noted
