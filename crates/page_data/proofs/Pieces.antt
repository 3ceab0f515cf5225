-- Pieces that are added one after the other.
use Rattle.std.proofs.Common.{◌≡◌, ℕ, List, [], ◌∷◌, ◌++◌, ap, ◌∙◌, append_assoc}

pub two : (z a b z1 z2 : List ℕ) → z1 ≡ z ++ a → z2 ≡ z1 ++ b → z2 ≡ z ++ (a ++ b)
two z a b z1 z2 e f = f ∙ (ap (λ t. t ++ b) e ∙ append_assoc z a b)

pub three : (z a b c z1 z2 z3 : List ℕ) → z1 ≡ z ++ a → z2 ≡ z1 ++ b → z3 ≡ z2 ++ c → z3 ≡ z ++ (a ++ b ++ c)
three z a b c z1 z2 z3 e f g = two z (a ++ b) c z2 z3 (two z a b z1 z2 e f) g

pub four : (z a b c d z1 z2 z3 z4 : List ℕ) → z1 ≡ z ++ a → z2 ≡ z1 ++ b → z3 ≡ z2 ++ c → z4 ≡ z3 ++ d → z4 ≡ z ++ (a ++ b ++ c ++ d)
four z a b c d z1 z2 z3 z4 e f g h = two z (a ++ b ++ c) d z3 z4 (three z a b c z1 z2 z3 e f g) h

-- a list: what stands before its first part, that part, the further ones, and its end
pub listed : (z h x r e z1 z2 z3 z4 : List ℕ) → z1 ≡ z ++ h → z2 ≡ z1 ++ x → z3 ≡ z2 ++ r → z4 ≡ z3 ++ e → z4 ≡ z ++ (h ++ (x ++ r) ++ e)
listed z h x r e z1 z2 z3 z4 p q s t = t ∙ (ap (λ y. y ++ e) (s ∙ ap (λ y. y ++ r) (q ∙ ap (λ y. y ++ x) p)) ∙ flat z h x r e)
  where
    flat : (z h x r e : List ℕ) → (((z ++ h) ++ x) ++ r) ++ e ≡ z ++ ((h ++ (x ++ r)) ++ e)
    flat z h x r e = simp append_assoc
