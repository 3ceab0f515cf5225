-- Names, and lists of names without duplicates.
use Rattle.std.specs.Prelude.{ℕ, ◌==◌, ◌&&◌, ◌||◌, Bool, false, List, [], ◌∷◌, ◌++◌, Option, Some, None, length, nat_le, position, if◌then◌else◌}
use Rattle.std.specs.List.{list_any, list_all}
use Rattle.std.specs.Str.{bytes_eq}

abbrev pub is_letter : ℕ → Bool
is_letter c = (nat_le 97 c && nat_le c 122) || (nat_le 65 c && nat_le c 90)

abbrev pub is_digit : ℕ → Bool
is_digit c = nat_le 48 c && nat_le c 57

abbrev pub is_name_byte : ℕ → Bool
is_name_byte c = is_letter c || is_digit c || (c == 95)

abbrev pub begins_name : List ℕ → Bool
begins_name [] = false
begins_name (c ∷ cs) = is_letter c || (c == 95)

-- a name: 1 to 32 ASCII letters, digits or underscores, of which the first is no digit
abbrev pub is_name : List ℕ → Bool
is_name w = begins_name w && (nat_le (length w) 32 && list_all is_name_byte w)

-- a name, and the number that was noted with it
pub record NotedName : Type 0 where
  pub name : List ℕ
  pub number : ℕ

abbrev pub is_noted : List NotedName → List ℕ → Bool
is_noted es name = list_any (λ e. bytes_eq name e.name) es

-- a new name is noted after the others
abbrev pub with_name : List NotedName → List ℕ → ℕ → List NotedName
with_name es name number = if is_noted es name then es else es ++ record { name = name; number = number } ∷ []

-- the index of a name
abbrev pub name_index : List NotedName → List ℕ → Option ℕ
name_index es name = position (λ e. bytes_eq name e.name) es

abbrev pub noted_name_of : List ℕ → ℕ → NotedName
noted_name_of name number = record { name = name; number = number }

-- the number that was noted with a name
abbrev pub numbered_of : List NotedName → List ℕ → Option ℕ
numbered_of [] name = None
numbered_of (e ∷ es) name = if bytes_eq name e.name then Some e.number else numbered_of es name
