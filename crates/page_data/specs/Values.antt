-- Names, references, numbers and fields in the page's data.
use Rattle.std.specs.Prelude.{ℕ, ℤ, pos, negsuc, ◌-◌, ◌^◌, Bool, Option, Some, None, List, [], ◌∷◌, ◌++◌, codes, nat_le, nat_lt, if◌then◌else◌}
use Rattle.std.specs.List.{flat_map}
use Rattle.std.specs.Fmt.{decimal, signed_decimal}
use Rattle.hh_model.specs.declared.data.Name.{Name}
use Rattle.run_deltas.specs.declared.data.Value.{Value}
use Rattle.run_deltas.specs.declared.data.Value.TheVariants.{Reference, Number}

-- a birth name: the task, a point, and which of its allocations
unfoldable pub name : Name → List ℕ
name n = 34 ∷ (decimal n.task ++ 46 ∷ (decimal n.count ++ 34 ∷ []))

-- nil is 0
abbrev pub reference : Option Name → List ℕ
reference None = 48 ∷ []
reference (Some n) = name n

-- the greatest number up to which a browser, which reads numbers as doubles, knows each whole number
abbrev pub safe_limit : ℕ
safe_limit = 9007199254740991

abbrev pub is_safe : ℤ → Bool
is_safe (pos n) = nat_le n safe_limit
is_safe (negsuc n) = nat_lt n safe_limit

-- a number beyond it stands in quotes
unfoldable pub number : ℤ → List ℕ
number k = if is_safe k then signed_decimal k else 34 ∷ (signed_decimal k ++ 34 ∷ [])

abbrev pub value : Value → List ℕ
value (Reference r) = reference r
value (Number k) = number k

-- a further part of a list
abbrev pub more : List ℕ → List ℕ
more text = 44 ∷ text

-- parts with commas between them
abbrev pub between : {A : Type 0} → (A → List ℕ) → List A → List ℕ
between text [] = []
between text (x ∷ xs) = text x ++ flat_map (λ y. more (text y)) xs

-- a further member of an object, whose value is a list; without parts it is left out
abbrev pub member : {A : Type 0} → List ℕ → (A → List ℕ) → List A → List ℕ
member head text [] = []
member head text (x ∷ xs) = head ++ between text (x ∷ xs) ++ 93 ∷ []
