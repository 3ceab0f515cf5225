-- The numbers of a loop and their halves.
use Rattle.loop_nest_laws.proofs.Common.{◌≡◌, ℕ, ℤ, pos, negsuc, suc, ◌+◌, ◌/◌, ◌%◌, ◌^◌, ◌≤◌, Bool, true, false, List, [], ◌∷◌, ◌++◌, refl, ap, sym, ◌∙◌, arith, ◌+ℤ◌, ◌-ℤ◌, FitsSigned, int_lt, int_wrapping_add, int_wrapping_sub, int_wrapping_div, int_wrap, cast_signed, cast_unsigned, w64, ints, wrapping_add_is, wrapping_sub_is, int_wrap_fits, to_z_pos, of_z-to_z, mod-add-mod, add-mod-mod, eq-eqb, ne_eqb, int_eq, wrapping_sum}

module _ (a : ℤ) where
  pub shift_shift : (i j : ℕ) → (a +ℤ pos i) +ℤ pos j ≡ a +ℤ pos (i + j)
  shift_shift i j = omega (arith, ints)

  pub shift_none : a +ℤ pos 0 ≡ a
  shift_none = omega (arith, ints)

  pub shift_less : (n : ℕ) → int_lt a (a +ℤ pos (suc n)) ≡ true
  shift_less n = shift_less_by_cases (int_lt a (a +ℤ pos (suc n))) refl
    where
      shift_less_by_cases : (b : Bool) → int_lt a (a +ℤ pos (suc n)) ≡ b → int_lt a (a +ℤ pos (suc n)) ≡ true
      shift_less_by_cases true e = e
      shift_less_by_cases false e = absurd (omega (arith, ints))

  pub shift_same : int_lt a (a +ℤ pos 0) ≡ false
  shift_same = shift_same_by_cases (int_lt a (a +ℤ pos 0)) refl
    where
      shift_same_by_cases : (b : Bool) → int_lt a (a +ℤ pos 0) ≡ b → int_lt a (a +ℤ pos 0) ≡ false
      shift_same_by_cases true e = absurd (omega (arith, ints))
      shift_same_by_cases false e = e

  pub fits_between : (i n : ℕ) → i ≤ n → FitsSigned w64 a → FitsSigned w64 (a +ℤ pos n) → FitsSigned w64 (a +ℤ pos i)
  fits_between i n le f g = omega (arith, ints)

  pub shift_add : (i : ℕ) → FitsSigned w64 a → FitsSigned w64 (pos i) → FitsSigned w64 (a +ℤ pos i) → int_wrapping_add w64 a (pos i) ≡ a +ℤ pos i
  shift_add i f g h = wrapping_add_is w64 a (pos i) f g ∙ int_wrap_fits w64 (a +ℤ pos i) h

  pub shift_sub : (n : ℕ) → FitsSigned w64 a → FitsSigned w64 (a +ℤ pos n) → FitsSigned w64 (pos n) → int_wrapping_sub w64 (a +ℤ pos n) a ≡ pos n
  shift_sub n f g h =
      wrapping_sub_is w64 (a +ℤ pos n) a g f
      ∙ (ap (int_wrap w64) (let e : (a +ℤ pos n) -ℤ a ≡ pos n = omega (arith, ints) in e) ∙ int_wrap_fits w64 (pos n) h)

pub half_is : (n : ℕ) → FitsSigned w64 (pos n) → int_wrapping_div w64 (pos n) (pos 2) ≡ pos (n / 2)
half_is n f = to_z_pos w64 (n / 2) (omega (arith, ints))

pub fits_less : (i n : ℕ) → i ≤ n → FitsSigned w64 (pos n) → FitsSigned w64 (pos i)
fits_less i n le f = omega (arith, ints)

pub int_eq_same : (a : ℤ) → int_eq a a ≡ true
int_eq_same (pos n) = eq-eqb n n refl
int_eq_same (negsuc n) = eq-eqb n n refl

pub int_eq_other : (a b : ℤ) → (a ≡ b → ⊥) → int_eq a b ≡ false
int_eq_other (pos a) (pos b) ne = ne_eqb a b (λ e. ne (ap pos e))
int_eq_other (pos a) (negsuc b) ne = refl
int_eq_other (negsuc a) (pos b) ne = refl
int_eq_other (negsuc a) (negsuc b) ne = ne_eqb a b (λ e. ne (ap negsuc e))

pub shift_other : (a : ℤ) (i j : ℕ) → (i ≡ j → ⊥) → a +ℤ pos i ≡ a +ℤ pos j → ⊥
shift_other a i j ne e = omega (arith, ints)

-- SUMS

pub add_assoc : (a b c : ℤ) → int_wrapping_add w64 (int_wrapping_add w64 a b) c ≡ int_wrapping_add w64 a (int_wrapping_add w64 b c)
add_assoc a b c =
    ap (λ z. cast_signed w64 ((z + cast_unsigned w64 c) % 2 ^ 64)) (read_back (cast_unsigned w64 a + cast_unsigned w64 b))
    ∙ (ap (cast_signed w64) (mod-add-mod (cast_unsigned w64 a + cast_unsigned w64 b) (2 ^ 64) (cast_unsigned w64 c)
    ∙ (ap (λ z. z % 2 ^ 64) (let e : cast_unsigned w64 a + cast_unsigned w64 b + cast_unsigned w64 c ≡ cast_unsigned w64 a + (cast_unsigned w64 b + cast_unsigned w64 c) = omega arith in e)
    ∙ sym (add-mod-mod (cast_unsigned w64 a) (cast_unsigned w64 b + cast_unsigned w64 c) (2 ^ 64))))
    ∙ ap (λ z. cast_signed w64 ((cast_unsigned w64 a + z) % 2 ^ 64)) (sym (read_back (cast_unsigned w64 b + cast_unsigned w64 c))))
  where
    read_back : (n : ℕ) → cast_unsigned w64 (cast_signed w64 (n % 2 ^ 64)) ≡ n % 2 ^ 64
    read_back n = of_z-to_z w64 (n % 2 ^ 64) (omega arith)

pub sum_append : (k l : ℤ) (ks ls : List ℤ) → wrapping_sum ((k ∷ ks) ++ (l ∷ ls)) ≡ int_wrapping_add w64 (wrapping_sum (k ∷ ks)) (wrapping_sum (l ∷ ls))
sum_append k l [] ls = refl
sum_append k l (q ∷ ks) ls = ap (int_wrapping_add w64 k) (sum_append q l ks ls) ∙ sym (add_assoc k (wrapping_sum (q ∷ ks)) (wrapping_sum (l ∷ ls)))
