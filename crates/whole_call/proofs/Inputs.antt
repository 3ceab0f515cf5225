-- What was read of a source.
use Rattle.std.proofs.Common.{◌≡◌, ◌≤◌, ◌+◌, ℕ, List, length, drop, Vec, Global}
use Rattle.std.specs.Prelude.{Option, Some, Result, Ok, Err, IfOk, OnOk}
use Rattle.read_write_all.specs.declared.read.ReadError.{ReadError}
use Rattle.read_write_all.specs.Bytes.{input_of, source_bytes}
use Rattle.whole_call.specs.Input.{HasRead, ReadsUpTo, SourceState}

-- within the limit, the first bytes of all that the source has, which were taken
pub was_read : (limit : ℕ) (file : Option (List ℕ)) (r : Result (Vec ℕ Global) ReadError) (before after : SourceState)
    → IfOk r (λ input. length input.items ≤ limit + 1)
    → IfOk r (λ input. (whole : List ℕ) → source_bytes before.left before.named file ≡ Some whole → input.items ≡ input_of limit whole)
    → OnOk r ((whole : List ℕ) → source_bytes before.left before.named file ≡ Some whole → after.left ≡ Some (drop (limit + 1) whole))
    → IfOk r (λ input. HasRead (ReadsUpTo limit file) before after input.items)
was_read limit file (Ok input) before after within first taken = record { is = record { within = within; first = first }; taken = taken }
was_read limit file (Err e) before after within first taken = tt
