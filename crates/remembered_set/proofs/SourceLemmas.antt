-- Fields that are read and written through an owner of heaps.
use Rattle.remembered_set.proofs.Common.{◌≡◌, ℕ, Bool, List, [], ◌∷◌, length, refl, ap, ◌∙◌, ⊎_elim, Option, Some, None, length-set, ◌≢◌, slice_set, Addr, addr_cases, RefField, into_by, redirected, written, AreFields}

module _ {S : Type 0} (refs_at : S → Addr → List (Option Addr)) (with_ref_at : S → Addr → ℕ → Option Addr → S)
    (same : (w : S) (a : Addr) (k : ℕ) (r : Option Addr) → refs_at (with_ref_at w a k r) a ≡ slice_set (refs_at w a) k r)
    (other : (w : S) (a b : Addr) (k : ℕ) (r : Option Addr) → b ≢ a → refs_at (with_ref_at w a k r) b ≡ refs_at w b) where
  -- each object keeps its number of references
  pub refs_kept : (w : S) (a : Addr) (k : ℕ) (r : Option Addr) (b : Addr) → length (refs_at (with_ref_at w a k r) b) ≡ length (refs_at w b)
  refs_kept w a k r b =
      ⊎_elim
      (λ (e : b ≡ a). rw e (ap (λ (xs : List (Option Addr)). length xs) (same w a k r) ∙ simp length-set))
      (λ (ne : b ≢ a). ap (λ (xs : List (Option Addr)). length xs) (other w a b k r ne))
      (addr_cases b a)

  fields_with : (w : S) (a : Addr) (k : ℕ) (r : Option Addr) (xs : List RefField) → AreFields refs_at w xs → AreFields refs_at (with_ref_at w a k r) xs
  fields_with w a k r [] h = h
  fields_with w a k r (x ∷ xs) h = (rw (refs_kept w a k r x.object) h.0, fields_with w a k r xs h.1)

  fields_written : (w : S) (s : RefField) (r : Option Addr) (xs : List RefField) → AreFields refs_at w xs → AreFields refs_at (written refs_at with_ref_at w s r) xs
  fields_written w s None xs h = h
  fields_written w s (Some a) xs h = fields_with w s.object s.field (Some a) xs h

  -- sources stay fields, whatever is redirected
  pub fields_kept : (ms : List (Addr × Addr)) (w : S) (s : RefField) (xs : List RefField) → AreFields refs_at w xs → AreFields refs_at (redirected refs_at with_ref_at ms w s) xs
  fields_kept ms w s xs h = fields_written w s _ xs h

-- tests with the same results choose the same
pub into_same : (f g : ℕ → Bool) → ((n : ℕ) → f n ≡ g n) → (r : Option Addr) → into_by f r ≡ into_by g r
into_same f g e None = refl
into_same f g e (Some a) = rw (e a.chunk)
