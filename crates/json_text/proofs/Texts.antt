-- The texts of values.
use Rattle.std.proofs.Common.{◌≡◌, ◌/◌, ◌%◌, ◌==◌, ℕ, zero, suc, Bool, true, false, List, [], ◌∷◌, ◌++◌, refl, ap, ◌∙◌, arith, append_assoc}
use Rattle.std.specs.List.{flat_map}
use Rattle.std.specs.Fmt.{decimal, digits, digits_onto, digit_glyph}
use Rattle.quoted_text.specs.Quoted.{quoted}
use Rattle.quoted_text.specs.Balanced.{Outside, read_all, IsBalanced, is_plain, ArePlain}
use Rattle.quoted_text.proofs.Balanced as balanced
use Rattle.quoted_text.proofs.Balanced.{joined}
use Rattle.json_text.specs.Json.{Json, Values, Members, Number, Word, Array, Object, NoValue, Value, NoMember, Member, json, first_values, more_values, first_members, more_members, values, further, with_members}
use Rattle.json_text.specs.Laws.{ValuesBalance, ArraysAreJoined, MembersAreJoined}

-- NUMBERS

plain_digit : (n : ℕ) → is_plain (digit_glyph false (n % 10)) ≡ true
plain_digit n = grind arith

plain_onto : (k n : ℕ) (acc : List ℕ) → ArePlain acc → ArePlain (digits_onto k 10 false n acc)
plain_onto zero n acc h = h
plain_onto (suc k) n acc h = plain_onto_by_cases (n / 10 == 0) refl (plain_onto k (n / 10) (digit_glyph false (n % 10) ∷ acc) (plain_digit n, h))
  where
    plain_onto_by_cases : (b : Bool) → (n / 10 == 0) ≡ b → ArePlain (digits_onto k 10 false (n / 10) (digit_glyph false (n % 10) ∷ acc)) → ArePlain (digits_onto (suc k) 10 false n acc)
    plain_onto_by_cases true e again = rw e (plain_digit n, h)
    plain_onto_by_cases false e again = rw e again

number_balances : (n : ℕ) → IsBalanced (decimal n)
number_balances n = balanced.plain_balance (decimal n) (unfold digits in plain_onto 64 n [] tt)

-- VALUES

nothing : IsBalanced []
nothing ws = refl

-- after a comma or a colon
behind : (c : ℕ) → ((ws : List ℕ) → read_all (Outside ws) (c ∷ []) ≡ Outside ws) → (a : List ℕ) → IsBalanced a → IsBalanced (c ∷ a)
behind c h a k = joined (c ∷ []) a h k

mutual
  pub values_balance : ValuesBalance
  values_balance (Number n) = number_balances n
  values_balance (Word w) = balanced.quoted_balance w
  values_balance (Array vs) = balanced.joined_balance.brackets (first_values vs) (first_balance vs)
  values_balance (Object ms) = balanced.joined_balance.braces (first_members ms) (first_members_balance ms)

  first_balance : (vs : Values) → IsBalanced (first_values vs)
  first_balance NoValue = nothing
  first_balance (Value v vs) = joined (json v) (more_values vs) (values_balance v) (more_balance vs)

  more_balance : (vs : Values) → IsBalanced (more_values vs)
  more_balance NoValue = nothing
  more_balance (Value v vs) = behind 44 (λ ws. refl) (10 ∷ (json v ++ more_values vs)) (behind 10 (λ ws. refl) (json v ++ more_values vs) (joined (json v) (more_values vs) (values_balance v) (more_balance vs)))

  first_members_balance : (ms : Members) → IsBalanced (first_members ms)
  first_members_balance NoMember = nothing
  first_members_balance (Member name v ms) =
      joined (quoted name) (58 ∷ (json v ++ more_members ms)) (balanced.quoted_balance name)
      (behind 58 (λ ws. refl) (json v ++ more_members ms) (joined (json v) (more_members ms) (values_balance v) (more_members_balance ms)))

  more_members_balance : (ms : Members) → IsBalanced (more_members ms)
  more_members_balance NoMember = nothing
  more_members_balance (Member name v ms) =
      behind 44 (λ ws. refl) (quoted name ++ 58 ∷ (json v ++ more_members ms))
      (joined (quoted name) (58 ∷ (json v ++ more_members ms)) (balanced.quoted_balance name)
      (behind 58 (λ ws. refl) (json v ++ more_members ms) (joined (json v) (more_members ms) (values_balance v) (more_members_balance ms))))

-- PIECE BY PIECE

values_joined : (vs : List Json) → more_values (values vs) ≡ flat_map further vs
values_joined [] = refl
values_joined (v ∷ vs) = ap (λ x. 44 ∷ 10 ∷ (json v ++ x)) (values_joined vs)

pub arrays_are_joined : ArraysAreJoined
arrays_are_joined v vs = ap (λ x. 91 ∷ ((json v ++ x) ++ 93 ∷ [])) (values_joined vs)

members_joined : (ms others : Members) → more_members (with_members ms others) ≡ more_members ms ++ more_members others
members_joined NoMember others = refl
members_joined (Member name v ms) others =
    ap (λ x. 44 ∷ (quoted name ++ 58 ∷ (json v ++ x))) (members_joined ms others)
    ∙ ap (λ x. 44 ∷ x) (four (quoted name) (json v) (more_members ms) (more_members others))
  where
    four : (a b c d : List ℕ) → a ++ 58 ∷ (b ++ (c ++ d)) ≡ (a ++ 58 ∷ (b ++ c)) ++ d
    four a b c d = simp append_assoc

pub members_are_joined : MembersAreJoined
members_are_joined name v ms others =
    ap (λ x. 123 ∷ ((quoted name ++ 58 ∷ (json v ++ x)) ++ 125 ∷ [])) (members_joined ms others)
    ∙ ap (λ x. 123 ∷ (x ++ 125 ∷ [])) (four (quoted name) (json v) (more_members ms) (more_members others))
  where
    four : (a b c d : List ℕ) → a ++ 58 ∷ (b ++ (c ++ d)) ≡ (a ++ 58 ∷ (b ++ c)) ++ d
    four a b c d = simp append_assoc
