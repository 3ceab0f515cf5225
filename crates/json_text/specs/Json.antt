-- JSON values and their text.
use Rattle.std.specs.Prelude.{ℕ, List, [], ◌∷◌, ◌++◌}
use Rattle.std.specs.Fmt.{decimal}
use Rattle.quoted_text.specs.Quoted.{quoted}

-- a value: a number, a word of bytes, an array of values, or an object of named values
mutual
  pub data Json : Type 0 where
    Number : ℕ → Json
    Word : List ℕ → Json
    Array : Values → Json
    Object : Members → Json

  pub data Values : Type 0 where
    NoValue : Values
    Value : Json → Values → Values

  pub data Members : Type 0 where
    NoMember : Members
    Member : List ℕ → Json → Members → Members

-- the text of a value; and of values and of members, each after a comma
abbrev mutual
  pub json : Json → List ℕ
  json (Number n) = decimal n
  json (Word w) = quoted w
  json (Array vs) = 91 ∷ (first_values vs ++ 93 ∷ [])
  json (Object ms) = 123 ∷ (first_members ms ++ 125 ∷ [])

  pub first_values : Values → List ℕ
  first_values NoValue = []
  first_values (Value v vs) = json v ++ more_values vs

  pub more_values : Values → List ℕ
  more_values NoValue = []
  more_values (Value v vs) = 44 ∷ 10 ∷ (json v ++ more_values vs)

  pub first_members : Members → List ℕ
  first_members NoMember = []
  first_members (Member name v ms) = quoted name ++ 58 ∷ (json v ++ more_members ms)

  pub more_members : Members → List ℕ
  more_members NoMember = []
  more_members (Member name v ms) = 44 ∷ (quoted name ++ 58 ∷ (json v ++ more_members ms))

-- a list of values
abbrev pub values : List Json → Values
values [] = NoValue
values (v ∷ vs) = Value v (values vs)

-- the first member of an object, and a further one
abbrev pub first_member : List ℕ → Json → List ℕ
first_member name v = quoted name ++ 58 ∷ json v

abbrev pub more_member : List ℕ → Json → List ℕ
more_member name v = 44 ∷ (quoted name ++ 58 ∷ json v)

-- a value after a comma
abbrev pub further : Json → List ℕ
further v = 44 ∷ 10 ∷ json v

-- members before others
abbrev pub with_members : Members → Members → Members
with_members NoMember others = others
with_members (Member name v ms) others = Member name v (with_members ms others)
