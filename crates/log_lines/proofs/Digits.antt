-- Digits read one after another.
use Rattle.log_lines.proofs.Common.{◌≡◌, ◌<◌, ◌≤◌, ◌+◌, ◌*◌, ◌-◌, ◌^◌, ℕ, suc, true, false, List, ◌∷◌, length, drop, drop-cons, get_or, arith, refl, ap, sym, ◌∙◌, cond, Option, Some, None, digit_value, is_ascii_digit, all_ascii_digits, digits_value_after, drop_all, nat_tests, pow_more, pow-le-pow_right}

-- the digits, behind those of a number
abbrev pub digits_behind : ℕ → List ℕ → Option ℕ
digits_behind n ds = cond (all_ascii_digits ds) (Some (digits_value_after 10 n ds)) None

value_of_digit : (c : ℕ) → is_ascii_digit c ≡ true → digit_value c ≡ c - 48
value_of_digit c e = grind (arith, nat_tests)

digits_step : (n c : ℕ) (cs : List ℕ) → is_ascii_digit c ≡ true → digits_behind n (c ∷ cs) ≡ digits_behind (n * 10 + (c - 48)) cs
digits_step n c cs e = let d = value_of_digit c e in rw (e, d) refl

digits_stop : (n c : ℕ) (cs : List ℕ) → is_ascii_digit c ≡ false → digits_behind n (c ∷ cs) ≡ None
digits_stop n c cs e = rw e refl

-- one digit more
pub one_more : (ds : List ℕ) (i n d : ℕ) → i < length ds → is_ascii_digit (get_or ds i d) ≡ true → digits_behind (n * 10 + (get_or ds i d - 48)) (drop (i + 1) ds) ≡ digits_behind n (drop i ds)
one_more ds i n d lt e =
    sym (rw (drop-cons ds i d lt) (digits_step n (get_or ds i d) (drop (suc i) ds) e) ∙ ap (λ k. digits_behind (n * 10 + (get_or ds i d - 48)) (drop k ds)) (let s : suc i ≡ i + 1 = omega arith in s))

-- what is no digit
pub no_more : (ds : List ℕ) (i n d : ℕ) → i < length ds → is_ascii_digit (get_or ds i d) ≡ false → digits_behind n (drop i ds) ≡ None
no_more ds i n d lt e = rw (drop-cons ds i d lt) (digits_stop n (get_or ds i d) (drop (suc i) ds) e)

-- no digit is left
pub all_read : (ds : List ℕ) (i n : ℕ) → length ds ≤ i → digits_behind n (drop i ds) ≡ Some n
all_read ds i n le = rw (drop_all i ds le) refl

pub longer_is_more : (i : ℕ) → i ≤ 18 → 10 ^ i ≤ 10 ^ 18
longer_is_more i le = pow-le-pow_right (omega arith) le

pub grown : (n d i : ℕ) → n < 10 ^ i → d < 10 → n * 10 + d < 10 ^ (i + 1)
grown n d i lt small = let e = pow_more 10 i in omega (arith, e)
