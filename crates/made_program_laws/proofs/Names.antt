-- The numbers and the names of functions in made texts, as the reader reads them.
use Rattle.made_program_laws.proofs.Common.{◌≡◌, ◌≤◌, ◌<◌, ◌^◌, ℕ, suc, Bool, true, false, List, [], ◌∷◌, ◌++◌, length, arith, refl, ap, sym, ◌∙◌, ◌||◌, nat_lt, nat_le, true≢false, Some, codes, pos, digit_value, decimal, list_any, list_all, bytes_eq, IsNumeral, AllDigits, digits_value, decimal_is_IsNumeral, decimal_injective, length-decimal-le, bytes_eq-Decides, or-false, or-true, or_assoc, fits_i64, signed_number, numeral_passes, positive, unsigned, IsProper, decimal_is_proper, NotedName, noted_name_of, is_name, is_name_byte, is_noted}

-- the name of a function, by its number
abbrev pub name_of : ℕ → List ℕ
name_of n = codes "f" ++ decimal n

-- NUMBERS

wide : (n : ℕ) → n < 1000 → n < 2 ^ 64
wide n lt = omega (arith, lt)

numeral : (n : ℕ) → n < 1000 → IsNumeral 10 (decimal n) × (digits_value 10 (decimal n) ≡ n)
numeral n lt = decimal_is_IsNumeral n (wide n lt)

pub proper_number : (n : ℕ) → n < 1000 → IsProper (decimal n)
proper_number n lt = decimal_is_proper n (omega (arith, lt))

fits : (n : ℕ) → n < 1000 → fits_i64 (pos n) ≡ true
fits n lt = grind (arith, lt)

pub number_again : (n : ℕ) → n < 1000 → signed_number (decimal n) ≡ Some (pos n)
number_again n lt = let h = numeral n lt in positive (decimal n) n (unsigned (decimal n) h.0) (numeral_passes (decimal n) h.0) h.1 (fits n lt)

-- NAMES

some_letter : (k : ℕ) → 0 < suc k
some_letter k = omega arith

pub proper_name : (n : ℕ) → n < 1000 → IsProper (name_of n)
proper_name n lt = (some_letter (length (decimal n)), ((omega arith, omega arith), (proper_number n lt).1))

digit_in_name : (c : ℕ) → digit_value c < 10 → is_name_byte c ≡ true
digit_in_name c h = grind arith

digits_in_name : (ds : List ℕ) → AllDigits 10 ds → list_all is_name_byte ds ≡ true
digits_in_name [] h = refl
digits_in_name (c ∷ cs) h = rw (digit_in_name c h.0, digits_in_name cs h.1) refl

short_name : (k : ℕ) → k ≤ 3 → nat_le (suc k) 32 ≡ true
short_name k le = grind (arith, le)

named : (ds : List ℕ) → nat_le (suc (length ds)) 32 ≡ true → list_all is_name_byte ds ≡ true → is_name (102 ∷ ds) ≡ true
named ds e f = rw (e, f) refl

pub is_a_name : (n : ℕ) → n < 1000 → is_name (name_of n) ≡ true
is_a_name n lt =
    let short = length-decimal-le 3 n (omega arith) (omega (arith, lt)) (wide n lt) in
    named (decimal n) (short_name (length (decimal n)) short) (digits_in_name (decimal n) (numeral n lt).0.1)

pub not_main : (n : ℕ) → bytes_eq (codes "main") (name_of n) ≡ false
not_main n = refl

pub same_number : (j k : ℕ) → j < 1000 → k < 1000 → bytes_eq (name_of j) (name_of k) ≡ true → j ≡ k
same_number j k lj lk e =
    let s : 102 ∷ decimal j ≡ 102 ∷ decimal k = (bytes_eq-Decides (name_of j) (name_of k)).0 e in
    let t : decimal j ≡ decimal k = cc in
    decimal_injective j k (wide j lj) (wide k lk) t

pub same_name : (j k : ℕ) → j ≡ k → bytes_eq (name_of j) (name_of k) ≡ true
same_name j k e = (bytes_eq-Decides (name_of j) (name_of k)).1 (ap name_of e)

-- ONE MORE NAME

-- whether any item passes a test, with one more item
any_more : {X : Type 0} (p : X → Bool) (xs : List X) (x : X) → list_any p (xs ++ x ∷ []) ≡ (list_any p xs || p x)
any_more p [] x = or-false (p x)
any_more p (y ∷ ys) x = ap (λ b. p y || b) (any_more p ys x) ∙ sym (or_assoc (p y) (list_any p ys) (p x))

pub noted_more : (es : List NotedName) (name other : List ℕ) (number : ℕ) → is_noted (es ++ noted_name_of other number ∷ []) name ≡ (is_noted es name || bytes_eq name other)
noted_more es name other number = any_more (λ e. bytes_eq name e.name) es (noted_name_of other number)

is_next : (j k : ℕ) → j ≡ k → nat_lt j (suc k) ≡ true
is_next j k e = grind (arith, e)

is_other : (j k : ℕ) → (j ≡ k → ⊥) → nat_lt j k ≡ nat_lt j (suc k)
is_other j k ne = grind (arith, ne)

less_or_same : (j k : ℕ) (b : Bool) → (b ≡ true → j ≡ k) → (j ≡ k → b ≡ true) → (nat_lt j k || b) ≡ nat_lt j (suc k)
less_or_same j k true f g = or-true (nat_lt j k) ∙ sym (is_next j k (f refl))
less_or_same j k false f g = or-false (nat_lt j k) ∙ is_other j k (λ e. true≢false (sym (g e)))

-- function j has one of the first k + 1 names if it has one of the first k, or is the last
pub among_more : (j k : ℕ) → j < 1000 → k < 1000 → (nat_lt j k || bytes_eq (name_of j) (name_of k)) ≡ nat_lt j (suc k)
among_more j k lj lk = less_or_same j k (bytes_eq (name_of j) (name_of k)) (same_number j k lj lk) (same_name j k)
