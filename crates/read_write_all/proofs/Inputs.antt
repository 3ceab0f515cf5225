-- An input that grows with each read, and bytes that are written piece by piece.
use Rattle.std.proofs.Common.{◌≡◌, ◌≤◌, ◌+◌, ◌-◌, ◌++◌, ℕ, zero, suc, List, [], ◌∷◌, length, take, drop, arith, refl, ap, sym, subst, ◌∙◌, append_assoc, length-append}
use Rattle.std.specs.Prelude.{Option, Some, None}
use Rattle.std.proofs.lemmas.List.{take_all, drop_all, drop-drop, length-drop}
use Rattle.io_traits.specs.Told.{GivesBytes, with_more}
use Rattle.read_write_all.specs.Bytes.{input_of, Grows}

none_taken : {A : Type 0} (m : ℕ) → ◌≡◌ {A = List A} [] (take m [])
none_taken zero = refl
none_taken (suc m) = refl

pub take_more : {A : Type 0} (k m : ℕ) (xs : List A) → take (k + m) xs ≡ take k xs ++ take m (drop k xs)
take_more zero m xs = ap (λ j. take j xs) (let e : 0 + m ≡ m = omega arith in e)
take_more (suc k) m [] = ap (λ j. take j []) (let e : suc k + m ≡ suc (k + m) = omega arith in e) ∙ none_taken m
take_more (suc k) m (x ∷ xs) = ap (λ j. take j (x ∷ xs)) (let e : suc k + m ≡ suc (k + m) = omega arith in e) ∙ ap (λ ys. x ∷ ys) (take_more k m xs)

take_given : {A : Type 0} (given rest : List A) → take (length given) (given ++ rest) ≡ given
take_given [] rest = refl
take_given (x ∷ given) rest = ap (λ ys. x ∷ ys) (take_given given rest)

given_is : (left given : List ℕ) → left ≡ given ++ drop (length given) left → given ≡ take (length given) left
given_is left given e = sym (take_given given (drop (length given) left)) ∙ ap (take (length given)) (sym e)

pub grown : (all : List ℕ) (before after : Option (List ℕ)) (old new : List ℕ) (n : ℕ) → old ≡ take (length old) all → before ≡ Some (drop (length old) all) → Grows before after old new n
    → (new ≡ take (length new) all) × (after ≡ Some (drop (length new) all))
grown all before after old new n o b g =
    let given = g.0 in
    let gives = subst (λ l. GivesBytes l after given) b g.3 in
    let len : length new ≡ length old + length given = ap length g.1 ∙ length-append old given in (
      g.1 ∙ ap (λ xs. xs ++ given) o ∙ ap (λ xs. take (length old) all ++ xs) (given_is (drop (length old) all) given gives.0)
          ∙ sym (take_more (length old) (length given) all) ∙ ap (λ k. take k all) (sym len),
      gives.1 ∙ ap Some (drop-drop (length given) (length old) all ∙ ap (λ k. drop k all) (sym len)),
    )

nothing_left : (all old : List ℕ) → drop (length old) all ≡ [] → length all ≤ length old
nothing_left all old e = let l = length-drop (length old) all in let z = ap length e in grind (arith, l, z)

empty_given : (given : List ℕ) → length given ≡ 0 → given ≡ []
empty_given [] e = refl
empty_given (x ∷ xs) e = absurd (omega (arith, e))

-- the source is at its end
pub ended : (limit : ℕ) (all : List ℕ) (before after : Option (List ℕ)) (old new : List ℕ) (n : ℕ) → old ≡ take (length old) all → before ≡ Some (drop (length old) all) → length old ≤ limit + 1 → Grows before after old new n → n ≡ 0
    → (new ≡ input_of limit all) × (after ≡ Some (drop (limit + 1) all))
ended limit all before after old new n o b le g z =
    let given = g.0 in
    let gives = subst (λ l. GivesBytes l after given) b g.3 in
    let none = empty_given given (g.2 ∙ z) in
    let short = nothing_left all old (gives.2.0 none) in
    let r = grown all before after old new n o b g in
    let len : length new ≡ length old + length given = ap length g.1 ∙ length-append old given in
    let least : length all ≤ length new = let q = g.2 in omega (arith, short, len) in
    let within : length all ≤ limit + 1 = omega (arith, short, le) in (
      r.0 ∙ take_all (length new) all least ∙ sym (take_all (limit + 1) all within),
      r.1 ∙ ap Some (drop_all (length new) all least ∙ sym (drop_all (limit + 1) all within)),
    )

-- one byte past the limit was read
pub filled : (limit : ℕ) (all : List ℕ) (now : Option (List ℕ)) (input : List ℕ) → input ≡ take (length input) all → now ≡ Some (drop (length input) all) → length input ≤ limit + 1 → limit + 1 ≤ length input
    → (input ≡ input_of limit all) × (now ≡ Some (drop (limit + 1) all))
filled limit all now input i n le ge =
    let e : length input ≡ limit + 1 = omega (arith, le, ge) in
    (i ∙ ap (λ k. take k all) e, n ∙ ap (λ k. Some (drop k all)) e)

-- WRITING

more_more : (w : Option (List ℕ)) (xs ys : List ℕ) → with_more (with_more w xs) ys ≡ with_more w (xs ++ ys)
more_more None xs ys = refl
more_more (Some w) xs ys = ap Some (append_assoc w xs ys)

pub written_more : (first mid last : Option (List ℕ)) (bytes : List ℕ) (at n : ℕ) → mid ≡ with_more first (take at bytes) → last ≡ with_more mid (take n (drop at bytes)) → last ≡ with_more first (take (at + n) bytes)
written_more first mid last bytes at n m l = l ∙ ap (λ w. with_more w (take n (drop at bytes))) m ∙ more_more first (take at bytes) (take n (drop at bytes)) ∙ ap (with_more first) (sym (take_more at n bytes))

-- the rest of a piece, as the code slices it
pub written_rest : (first mid last : Option (List ℕ)) (bytes : List ℕ) (at n : ℕ) → mid ≡ with_more first (take at bytes) → last ≡ with_more mid (take n (take (length bytes - at) (drop at bytes))) → last ≡ with_more first (take (at + n) bytes)
written_rest first mid last bytes at n m l = written_more first mid last bytes at n m (l ∙ ap (λ xs. with_more mid (take n xs)) (take_all (length bytes - at) (drop at bytes) (let e = length-drop at bytes in omega (arith, e))))
