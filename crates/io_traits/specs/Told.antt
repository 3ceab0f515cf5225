-- What is known of the bytes outside: all of them, or nothing.
use Rattle.std.specs.Prelude.{◌≡◌, ℕ, ◌↔◌, List, [], ◌++◌, Option, Some, None, length, drop}

-- nothing is known
abbrev pub untold : Option (List ℕ)
untold = None

-- a source gave the first bytes of what was left; none if and only if it was at its end
abbrev pub GivesBytes : Option (List ℕ) → Option (List ℕ) → List ℕ → Type 0
GivesBytes None after given = after ≡ None
GivesBytes (Some left) after given =
    (left ≡ given ++ drop (length given) left) × (after ≡ Some (drop (length given) left)) × ((given ≡ []) ↔ (left ≡ []))

-- what a sink holds after these bytes
abbrev pub with_more : Option (List ℕ) → List ℕ → Option (List ℕ)
with_more None more = None
with_more (Some bytes) more = Some (bytes ++ more)
