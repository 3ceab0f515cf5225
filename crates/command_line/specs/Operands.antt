-- What files and numbers ask for.
use Rattle.std.specs.Prelude.{◌≡◌, ◌&&◌, ℕ, Bool, true, false, List, [], ◌∷◌, Option, Some, None, codes, if◌then◌else◌}
use Rattle.std.specs.Str.Parse.{digits_value, without_leading_plus}
use Rattle.command_line.specs.Common.{strip_byte, is_unsigned_in, Text, size_limit, SettingsValue}
use Rattle.command_line.specs.CommandLine.{command_line}
use Rattle.command_line.specs.Examples.{usual_options}
use Rattle.command_line.specs.declared.line.CommandLine.{CommandLine}
use Rattle.command_line.specs.declared.line.Options.{Options}
use Rattle.command_line.specs.declared.line.CommandLine.TheVariants.{Make}

-- the word doesn't begin with a hyphen (45)
abbrev pub IsOperand : Text → Type 0
IsOperand word = strip_byte 45 word ≡ None

-- two such words after `make` ask for a program if and only if both are numbers in their ranges, and for its run if the
-- flag follows
abbrev pub AsksForMake : List Text → Bool → Type 0
AsksForMake flags run = (seed size : Text) → IsOperand seed → IsOperand size
    → command_line (codes "make" ∷ seed ∷ size ∷ flags)
    ≡ (if is_unsigned_in 0 4294967295 seed && is_unsigned_in 1 size_limit size
    then Some (Make (digits_value 10 (without_leading_plus seed)) (digits_value 10 (without_leading_plus size)) run)
    else None)

-- the option alone sets this number of the usual settings if and only if the word after it is a number in the range
abbrev pub Sets : Text → (Option Text → Options → CommandLine) → Text → ℕ → ℕ → (ℕ → SettingsValue) → Type 0
Sets command line flag least most limits = (word : Text) → IsOperand word
    → command_line (command ∷ flag ∷ word ∷ [])
    ≡ (if is_unsigned_in least most word
    then Some (line None (record usual_options { settings = limits (digits_value 10 (without_leading_plus word)) }))
    else None)
