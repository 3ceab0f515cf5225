-- The words of a line, and the numbers that they write.
use Rattle.std.specs.Prelude.{ℕ, ◌==◌, ◌&&◌, Bool, true, false, not, Option, Some, None, Result, Ok, Err, List, [], ◌∷◌, length, drop, nat_le, if◌then◌else◌}
use Rattle.std.specs.List.{slice_split}
use Rattle.std.specs.Str.{all_ascii_digits}
use Rattle.std.specs.Str.Parse.{digits_value}
use Rattle.log_lines.specs.declared.cause.LogCause.{LogCause}
use Rattle.log_lines.specs.declared.cause.LogCause.TheVariants.{BadNumber, WrongCount}

-- one step after another; a cause ends them
infixl 10 ◌>>=◌
abbrev pub ◌>>=◌ : {A B : Type 0} → Result A LogCause → (A → Result B LogCause) → Result B LogCause
(Ok x) >>= f = f x
(Err e) >>= f = Err e

-- a line is cut into words at each space
abbrev pub is_space : ℕ → Bool
is_space c = c == 32

abbrev pub words_of : List ℕ → List (List ℕ)
words_of line = slice_split is_space line

-- decimal digits without a leading zero, at most 18 of them
abbrev pub has_length : List ℕ → Bool
has_length [] = false
has_length (c ∷ cs) = nat_le (length (c ∷ cs)) 18

abbrev pub has_leading_zero : List ℕ → Bool
has_leading_zero [] = false
has_leading_zero (c ∷ []) = false
has_leading_zero (c ∷ d ∷ ds) = c == 48

abbrev pub digits_number : List ℕ → Option ℕ
digits_number ds = if all_ascii_digits ds then Some (digits_value 10 ds) else None

abbrev pub numeral_value : List ℕ → Option ℕ
numeral_value w = if has_length w && not (has_leading_zero w) then digits_number w else None

abbrev pub or_bad : Option ℕ → Result ℕ LogCause
or_bad (Some n) = Ok n
or_bad None = Err BadNumber

-- the next word's number, and the words behind it
abbrev pub number_at : List (List ℕ) → Result (ℕ × List (List ℕ)) LogCause
number_at [] = Err WrongCount
number_at (w ∷ ws) = or_bad (numeral_value w) >>= λ n. Ok (n, ws)

-- a word is left
abbrev pub has_word : List (List ℕ) → Bool
has_word [] = false
has_word (w ∷ ws) = true

abbrev pub nothing_left : List (List ℕ) → Result (Unit {0}) LogCause
nothing_left ws = if has_word ws then Err WrongCount else Ok tt

-- a site is written with an at sign before its number
abbrev pub is_site : List ℕ → Bool
is_site [] = false
is_site (c ∷ cs) = c == 64

-- a site, where there is one, is the last word
abbrev pub site_at : List (List ℕ) → Result (Option ℕ) LogCause
site_at [] = Ok None
site_at (w ∷ ws) =
    if is_site w then (or_bad (numeral_value (drop 1 w)) >>= λ site. nothing_left ws >>= λ _. Ok (Some site))
    else Err WrongCount

-- a word is left that is no site
abbrev pub goes_on : List (List ℕ) → Bool
goes_on [] = false
goes_on (w ∷ ws) = not (is_site w)
