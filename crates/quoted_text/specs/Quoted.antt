-- Strings in quotes.
use Rattle.std.specs.Prelude.{ℕ, ◌+◌, ◌/◌, ◌%◌, ◌==◌, List, [], ◌∷◌, ◌++◌, nat_lt, if◌then◌else◌}
use Rattle.std.specs.List.{flat_map}

-- the digit of a number below 16
abbrev pub hex : ℕ → ℕ
hex n = if nat_lt n 10 then n + 48 else n + 87

-- a byte in a string: a quote and a backslash after a backslash, a control byte as \u00 and two digits, any other
-- unchanged
abbrev pub escaped : ℕ → List ℕ
escaped c =
    if c == 34 then 92 ∷ 34 ∷ []
    else if c == 92 then 92 ∷ 92 ∷ []
    else if nat_lt c 32 then 92 ∷ 117 ∷ 48 ∷ 48 ∷ hex (c / 16) ∷ hex (c % 16) ∷ []
    else c ∷ []

-- a word in quotes
abbrev pub quoted : List ℕ → List ℕ
quoted word = 34 ∷ (flat_map escaped word ++ 34 ∷ [])
