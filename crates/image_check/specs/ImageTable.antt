-- Maps from numbers to values.
use Rattle.std.specs.Prelude.{ℕ, Bool, List, [], ◌∷◌, ◌++◌, Option, nat_eq, is_some, if◌then◌else◌}
use Rattle.std.specs.Map.{lookup}
use Rattle.indexmap.specs.IndexMap.{insert_entry}

-- the value under a number
abbrev pub found : {V : Type 0} → List (ℕ × V) → ℕ → Option V
found entries n = lookup (nat_eq n) entries

abbrev pub has : {V : Type 0} → List (ℕ × V) → ℕ → Bool
has entries n = is_some (found entries n)

-- sets the value under a number; a new number goes last
abbrev pub with_entry : {V : Type 0} → List (ℕ × V) → ℕ → V → List (ℕ × V)
with_entry entries n v = insert_entry nat_eq entries n v

-- adds a value under a number, last, unless the number is there
abbrev pub with_new : {V : Type 0} → List (ℕ × V) → ℕ → V → List (ℕ × V)
with_new entries n v = if has entries n then entries else entries ++ (n, v) ∷ []
