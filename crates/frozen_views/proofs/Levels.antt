-- Searches in levels, and positions in them.
use Rattle.frozen_views.proofs.Common.{◌≡◌, ℕ, zero, suc, ◌+◌, ◌-◌, ◌<◌, ◌≤◌, Bool, true, false, cond, List, [], ◌∷◌, ◌++◌, length, get_or, map, refl, sym, ap, ◌∙◌, arith, inl, inr, eqb, Option, Some, None, insert, is_some, option_map, remove, slice_get, Err, IsOk, Ok, OnOk, Result, nat_lt, not, position, position_or_len, option_or, cases_Bool, cases_lt, eq-eqb, eqb-true, le-ltb, lt-ltb, PieceValue, Level, nearest, piece_in, place_on, is_among}

pub found_in_both : (ls ms : Level) (n : ℕ) → piece_in (ls ++ ms) n ≡ option_or (piece_in ls n) (piece_in ms n)
found_in_both [] ms n = refl
found_in_both (l ∷ ls) ms n =
    elim (cases_Bool (eqb l.number n)) [
      | inl e ↦ rw e refl
      | inr e ↦ rw (e, found_in_both ls ms n) refl
    ]

-- the first of three levels that has it
pub or_three : {X : Type 0} (a b c : Option X) → option_or (option_or a b) c ≡ option_or a (option_or b c)
or_three None b c = refl
or_three (Some x) b c = refl

pub or_none : {X : Type 0} (a : Option X) → option_or a None ≡ a
or_none None = refl
or_none (Some x) = refl

-- the first two levels merged
pub first_two : (a b both : Level) (ls : List Level) (n : ℕ) → piece_in both n ≡ option_or (piece_in a n) (piece_in b n) → nearest (both ∷ ls) n ≡ nearest (a ∷ (b ∷ ls)) n
first_two a b both ls n is = ap (λ (o : Option PieceValue). option_or o (nearest ls n)) is ∙ or_three (piece_in a n) (piece_in b n) (nearest ls n)

-- ---- the position of a piece

-- one more item in front
place_first : {X : Type 0} (p : X → Bool) (x : X) (xs : List X) → position p (x ∷ xs) ≡ cond (p x) (Some 0) (option_map (λ i. 1 + i) (position p xs))
place_first p x xs = place_first_by_cases (p x)
  where
    place_first_by_cases : (b : Bool) → cond (nat_lt (cond (not b) (1 + position_or_len p xs) 0) (suc (length xs))) (Some (cond (not b) (1 + position_or_len p xs) 0)) None ≡ cond b (Some 0) (option_map (λ i. 1 + i) (position p xs))
    place_first_by_cases true = ap (λ (c : Bool). cond c (Some 0) None) (lt-ltb 0 (suc (length xs)) (omega arith))
    place_first_by_cases false =
        elim (cases_lt (position_or_len p xs) (length xs)) [
          | inl l ↦
              ap (λ (c : Bool). cond c (Some (1 + position_or_len p xs)) None) (lt-ltb (1 + position_or_len p xs) (suc (length xs)) (omega arith))
              ∙ sym (ap (λ (c : Bool). option_map (λ i. 1 + i) (cond c (Some (position_or_len p xs)) None)) (lt-ltb (position_or_len p xs) (length xs) l))
          | inr g ↦
              ap (λ (c : Bool). cond c (Some (1 + position_or_len p xs)) None) (le-ltb (1 + position_or_len p xs) (suc (length xs)) (omega arith))
              ∙ sym (ap (λ (c : Bool). option_map (λ i. 1 + i) (cond c (Some (position_or_len p xs)) None)) (le-ltb (position_or_len p xs) (length xs) g))
        ]

on_more : (f : PieceValue) (fs : Level) (n : ℕ) → place_on (f ∷ fs) n ≡ cond (eqb f.number n) (Some 0) (option_map (λ i. 1 + i) (place_on fs n))
on_more f fs n = place_first (λ (g : PieceValue). eqb g.number n) f fs

none_map : (o : Option ℕ) → None ≡ option_map (λ i. 1 + i) o → None ≡ o
none_map None e = refl
none_map (Some i) e = cc

pub none_there : (l : Level) (n : ℕ) → None ≡ place_on l n → piece_in l n ≡ None
none_there [] n e = refl
none_there (f ∷ fs) n e =
    let e' : None ≡ cond (eqb f.number n) (Some 0) (option_map (λ i. 1 + i) (place_on fs n)) = e ∙ on_more f fs n in
    elim (cases_Bool (eqb f.number n)) [
      | inl b ↦ let g = rw b at e' in cc
      | inr b ↦ rw b (none_there fs n (none_map (place_on fs n) (rw b at e')))
    ]

-- it is at a position, and is found there
pub record StandsAt (l : Level) (n i : ℕ) : Type 0 where
  pub inside : i < length l
  pub is : piece_in l n ≡ slice_get l i

pub some_there : (l : Level) (n i : ℕ) → Some i ≡ place_on l n → StandsAt l n i
some_there [] n i e = cc
some_there (f ∷ fs) n i e =
    let e' : Some i ≡ cond (eqb f.number n) (Some 0) (option_map (λ i. 1 + i) (place_on fs n)) = e ∙ on_more f fs n in
    elim (cases_Bool (eqb f.number n)) [
      | inl b ↦ first b i (rw b at e')
      | inr b ↦ later b (place_on fs n) refl (λ j h. some_there fs n j h) i (rw b at e')
    ]
  where
    first : eqb f.number n ≡ true → (j : ℕ) → Some j ≡ Some 0 → StandsAt (f ∷ fs) n j
    first b zero g = record { inside = omega arith; is = rw b refl }
    first b (suc j) g = cc

    later : eqb f.number n ≡ false → (o : Option ℕ) → place_on fs n ≡ o → ((j : ℕ) → Some j ≡ place_on fs n → StandsAt fs n j) → (j : ℕ) → Some j ≡ option_map (λ i. 1 + i) o → StandsAt (f ∷ fs) n j
    later b None h more j g = cc
    later b (Some k) h more zero g = let s : 0 ≡ 1 + k = cc in absurd (omega arith)
    later b (Some k) h more (suc j) g =
        let s : suc j ≡ 1 + k = cc in
        let same : j ≡ k = omega arith in
        let at = more j (ap Some same ∙ sym h) in
        let within = at.inside in
        record { inside = omega arith; is = rw b at.is }

-- one more piece
pub place_push : (l : Level) (f : PieceValue) (n : ℕ) → place_on (l ++ f ∷ []) n ≡ option_or (place_on l n) (cond (eqb f.number n) (Some (length l)) None)
place_push [] f n = on_more f [] n ∙ alone (eqb f.number n)
  where
    alone : (b : Bool) → cond b (Some 0) (option_map (λ i. 1 + i) None) ≡ cond b (Some 0) None
    alone true = refl
    alone false = refl
place_push (g ∷ gs) f n =
    on_more g (gs ++ f ∷ []) n
    ∙ (elim (cases_Bool (eqb g.number n)) [
      | inl e ↦ rw e refl
      | inr e ↦ rw (e, place_push gs f n) (further (place_on gs n) (eqb f.number n))
    ]
    ∙ ap (λ (o : Option ℕ). option_or o (cond (eqb f.number n) (Some (suc (length gs))) None)) (sym (on_more g gs n)))
  where
    further : (o : Option ℕ) (b : Bool) → option_map (λ i. 1 + i) (option_or o (cond b (Some (length gs)) None)) ≡ option_or (option_map (λ i. 1 + i) o) (cond b (Some (suc (length gs))) None)
    further (Some i) b = refl
    further None true = let e : 1 + length gs ≡ suc (length gs) = omega arith in ap Some e
    further None false = refl

-- one more entry in the table of a level that has no piece of this number
pub entry_more : (l : Level) (f : PieceValue) (m : ℕ) → m ≡ f.number → None ≡ place_on l m → (q len : ℕ) → len ≡ length l → (was new : Option ℕ) →
    new ≡ cond (eqb m q) (Some len) was → was ≡ place_on l q → new ≡ place_on (l ++ f ∷ []) q
entry_more l f m number none q len size was new writes before =
    writes ∙ (rw (before, number, size) (entry_more_by_cases (eqb f.number q) (λ e. let same : m ≡ q = number ∙ eqb-true f.number q e in rw same at none) (place_on l q) refl) ∙ sym (place_push l f q))
  where
    entry_more_by_cases : (b : Bool) → (b ≡ true → None ≡ place_on l q) → (o : Option ℕ) → place_on l q ≡ o → cond b (Some (length l)) o ≡ option_or o (cond b (Some (length l)) None)
    entry_more_by_cases true h None e = refl
    entry_more_by_cases true h (Some i) e = let g = h refl in cc
    entry_more_by_cases false h None e = refl
    entry_more_by_cases false h (Some i) e = refl

-- if there is a piece of a number, another of that number changes nothing
pub known_already : (l : Level) (f : PieceValue) (m i : ℕ) → m ≡ f.number → Some i ≡ place_on l m → (n : ℕ) → piece_in l n ≡ option_or (piece_in l n) (piece_in (f ∷ []) n)
known_already l f m i number there n =
    elim (cases_Bool (eqb f.number n)) [
      | inl e ↦
          let same : m ≡ n = number ∙ eqb-true f.number n e in
          let at = some_there l n i (rw same at there) in
          sym (first_found l i at.inside (piece_in (f ∷ []) n) (piece_in l n) at.is)
      | inr e ↦ rw e (sym (or_none (piece_in l n)))
    ]
  where
    some_or : (xs : Level) (j : ℕ) → j < length xs → (r o : Option PieceValue) → o ≡ slice_get xs j → option_or o r ≡ o
    some_or [] j below r o e = absurd (omega arith)
    some_or (x ∷ xs) zero below r o e = rw e refl
    some_or (x ∷ xs) (suc j) below r o e = some_or xs j (omega arith) r o e

    first_found : (xs : Level) (j : ℕ) → j < length xs → (r o : Option PieceValue) → o ≡ slice_get xs j → option_or o r ≡ o
    first_found xs j below r o e = some_or xs j below r o e

pub known_where : (l : Level) (f : PieceValue) (m : ℕ) → m ≡ f.number → (o : Option ℕ) → o ≡ place_on l m → is_some o ≡ true → (n : ℕ) → piece_in l n ≡ option_or (piece_in l n) (piece_in (f ∷ []) n)
known_where l f m number (Some i) e s n = known_already l f m i number e n
known_where l f m number None e s n = cc

pub unknown_where : (o p : Option ℕ) → o ≡ p → is_some o ≡ false → None ≡ p
unknown_where None p e s = e
unknown_where (Some i) p e s = cc

-- a call that succeeds does what it does on success
pub on_ok : {T E P : Type 0} (r : Result T E) → IsOk r → OnOk r P → P
on_ok (Ok x) s p = p
on_ok (Err e) s p = cc

-- the first two of a list of levels are replaced by one
pub two_first : {X : Type 0} (f : X → Level) (xs : List X) (b a both : X) (n : ℕ) → 2 ≤ length xs → b ≡ get_or xs 1 b → a ≡ get_or (remove xs 1) 0 a → piece_in (f both) n ≡ option_or (piece_in (f a) n) (piece_in (f b) n) → nearest (map f (insert (remove (remove xs 1) 0) 0 both)) n ≡ nearest (map f xs) n
two_first f [] b a both n two second first is = absurd (omega arith)
two_first f (x ∷ []) b a both n two second first is = absurd (omega arith)
two_first f (x ∷ (y ∷ ys)) b a both n two second first is =
    first_two (f x) (f y) (f both) (map f ys) n (is ∙ rw (first, second) refl)

-- what is read of a mapped list
pub read_mapped : {X Y : Type 0} (f : X → Y) (xs : List X) (i : ℕ) (x : X) → x ≡ get_or xs i x → f x ≡ get_or (map f xs) i (f x)
read_mapped f [] i x e = refl
read_mapped f (y ∷ xs) zero x e = ap f e
read_mapped f (y ∷ xs) (suc i) x e = read_mapped f xs i x e

-- the last of some numbers is among them
pub last_among : (ns : List ℕ) (m : ℕ) → slice_get ns (length ns - 1) ≡ Some m → is_among ns m ≡ true
last_among [] m e = cc
last_among (x ∷ []) m e =
    let same : x ≡ m = cc in
    rw (eq-eqb x m same) refl
last_among (x ∷ (y ∷ ys)) m e =
    elim (cases_Bool (eqb x m)) [
      | inl b ↦ rw b refl
      | inr b ↦ rw b (last_among (y ∷ ys) m (further y ys m e))
    ]
  where
    further : (z : ℕ) (zs : List ℕ) (k : ℕ) → slice_get (x ∷ (z ∷ zs)) (length (x ∷ (z ∷ zs)) - 1) ≡ Some k → slice_get (z ∷ zs) (length (z ∷ zs) - 1) ≡ Some k
    further z zs k h =
        let one : length (x ∷ (z ∷ zs)) - 1 ≡ suc (length zs) = omega arith in
        let two : length (z ∷ zs) - 1 ≡ length zs = omega arith in
        rw two (rw one at h)
