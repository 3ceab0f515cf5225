-- A guarded word has no `<`.
use Rattle.quoted_text.proofs.Common.{◌≡◌, ◌+◌, ◌/◌, ◌%◌, ◌==◌, ℕ, Bool, true, false, List, [], ◌∷◌, ◌++◌, refl, arith, nat_lt, flat_map, hex, escaped, guarded_byte, guarded, HasNoTag, GuardedHasNoTag}

pub untagged_append : (a b : List ℕ) → HasNoTag a → HasNoTag b → HasNoTag (a ++ b)
untagged_append [] b h g = g
untagged_append (c ∷ cs) b h g = (h.0, untagged_append cs b h.1 g)

pub untagged_map : {A : Type 0} → (f : A → List ℕ) → ((x : A) → HasNoTag (f x)) → (xs : List A) → HasNoTag (flat_map f xs)
untagged_map f h [] = tt
untagged_map f h (x ∷ xs) = untagged_append (f x) (flat_map f xs) (h x) (untagged_map f h xs)

hex_untagged : (n : ℕ) → (hex n == 60) ≡ false
hex_untagged n = hex_untagged_by_cases (nat_lt n 10) refl
  where
    hex_untagged_by_cases : (b : Bool) → nat_lt n 10 ≡ b → (hex n == 60) ≡ false
    hex_untagged_by_cases true e = rw e (grind (arith, e))
    hex_untagged_by_cases false e = rw e (grind arith)

escaped_untagged : (c : ℕ) → (c == 60) ≡ false → HasNoTag (escaped c)
escaped_untagged c h = by_quote (c == 34) refl
  where
    by_control : (b : Bool) → (c == 34) ≡ false → (c == 92) ≡ false → nat_lt c 32 ≡ b → HasNoTag (escaped c)
    by_control true e f g = rw (e, f, g) (refl, (refl, (refl, (refl, (hex_untagged (c / 16), (hex_untagged (c % 16), tt))))))
    by_control false e f g = rw (e, f, g) (h, tt)

    by_stroke : (b : Bool) → (c == 34) ≡ false → (c == 92) ≡ b → HasNoTag (escaped c)
    by_stroke true e f = rw (e, f) (refl, (refl, tt))
    by_stroke false e f = by_control (nat_lt c 32) e f refl

    by_quote : (b : Bool) → (c == 34) ≡ b → HasNoTag (escaped c)
    by_quote true e = rw e (refl, (refl, tt))
    by_quote false e = by_stroke (c == 92) e refl

byte_untagged : (c : ℕ) → HasNoTag (guarded_byte c)
byte_untagged c = byte_untagged_by_cases (c == 60) refl
  where
    byte_untagged_by_cases : (b : Bool) → (c == 60) ≡ b → HasNoTag (guarded_byte c)
    byte_untagged_by_cases true e = rw e (refl, (refl, (refl, (refl, (refl, (refl, tt))))))
    byte_untagged_by_cases false e = rw e (escaped_untagged c e)

pub guarded_has_no_tag : GuardedHasNoTag
guarded_has_no_tag word = (refl, untagged_append (flat_map guarded_byte word) (34 ∷ []) (untagged_map guarded_byte byte_untagged word) (refl, tt))
