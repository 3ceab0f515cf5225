-- Laws of the texts of values.
use Rattle.std.specs.Prelude.{◌≡◌, ℕ, List, [], ◌∷◌, ◌++◌}
use Rattle.std.specs.List.{flat_map}
use Rattle.quoted_text.specs.Balanced.{IsBalanced}
use Rattle.json_text.specs.Json.{Json, Array, Object, Member, Members, json, values, further, first_members, more_members, with_members}

abbrev pub ValuesBalance : Type 0
ValuesBalance = (v : Json) → IsBalanced (json v)

abbrev pub ArraysAreJoined : Type 0
ArraysAreJoined = (v : Json) (vs : List Json) → json (Array (values (v ∷ vs))) ≡ 91 ∷ ((json v ++ flat_map further vs) ++ 93 ∷ [])

abbrev pub MembersAreJoined : Type 0
MembersAreJoined =
    (name : List ℕ) (v : Json) (ms others : Members)
    → json (Object (with_members (Member name v ms) others)) ≡ 123 ∷ ((first_members (Member name v ms) ++ more_members others) ++ 125 ∷ [])
