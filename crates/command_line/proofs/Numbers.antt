-- A number in its range is read as it is written.
use Rattle.command_line.proofs.Common.{◌≡◌, Some, None, Option, Result, Ok, Err, arith, ℕ, unwrap_or, ParsesUnsigned, digits_value, without_leading_plus, IsUnsignedIn, ReadsOne}
use Rattle.clap.specs.Words.{Text}

pub number_read : {E : Type 0} (gives : Text → Result ℕ E → Type 0) (t : Text) (o : Option ℕ) → ReadsOne gives t o
    → ((r : Result ℕ E) → gives t r → ParsesUnsigned 32 10 t r) → IsUnsignedIn 0 4294967295 t
    → unwrap_or o 0 ≡ digits_value 10 (without_leading_plus t)
number_read gives t (Some n) h parses fits = (parses (Ok n) h).1
number_read gives t None h parses fits = absurd (parses (Err h.0) h.1 (fits.0, omega (arith, fits.3)))
