-- Invalid UTF-8 fails the test.
use Rattle.text_lines.proofs.Common.{◌≡◌, ℕ, List, false, inl, inr, IsUtf8, is_utf8, cases_Bool, IsUtf8-from_is_utf8}

pub not_utf8 : (bs : List ℕ) → (IsUtf8 bs → ⊥) → is_utf8 bs ≡ false
not_utf8 bs h = elim (cases_Bool (is_utf8 bs)) [ inl e ↦ absurd (h (IsUtf8-from_is_utf8 bs e)) | inr e ↦ e ]
