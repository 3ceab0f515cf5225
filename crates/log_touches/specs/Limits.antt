-- The limits of a log whose races are looked for.
use Rattle.std.specs.Prelude.{◌<◌, ◌^◌, ℕ}
use Rattle.log_places.specs.declared.numbers.NumberError.{NumberError}
use Rattle.log_places.specs.declared.numbers.NumberError.TheVariants as numbers
use Rattle.log_touches.specs.declared.numbers.RacesError.{RacesError}
use Rattle.log_touches.specs.declared.numbers.RacesError.TheVariants.{TooManyStretches, TooLong, NoMemory}

-- acts and strands have numbers of 32 bits
abbrev pub most_acts : ℕ
most_acts = 2 ^ 32

abbrev pub of_numbers : NumberError → RacesError
of_numbers numbers.OverLimit = TooManyStretches
of_numbers numbers.NoMemory = NoMemory

-- there are more than so many acts, unless memory ran out
abbrev pub AreTooMany : ℕ → RacesError → Type 0
AreTooMany acts TooManyStretches = ⊥
AreTooMany acts TooLong = most_acts < acts
AreTooMany acts NoMemory = Unit {0}
