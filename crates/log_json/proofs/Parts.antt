-- Texts are made of their parts.
use Rattle.std.proofs.Common.{◌≡◌, ◌∙◌, ◌++◌, ℕ, List, ap, append_assoc}

pub four : (t u1 u2 u3 u4 a b c d e : List ℕ) → u1 ≡ t ++ a → u2 ≡ u1 ++ b → u3 ≡ u2 ++ c → u4 ≡ u3 ++ d → d ≡ e → u4 ≡ t ++ (a ++ b ++ c ++ e)
four t u1 u2 u3 u4 a b c d e e1 e2 e3 e4 same = e4 ∙ (λ i. (e3 ∙ ap (λ x. x ++ c) (e2 ∙ ap (λ x. x ++ b) e1)) i ++ same i) ∙ simp append_assoc

pub five : (t u1 u2 u3 u4 u5 a b c d e f : List ℕ) → a ≡ f → u1 ≡ t ++ a → u2 ≡ u1 ++ b → u3 ≡ u2 ++ c → u4 ≡ u3 ++ d → u5 ≡ u4 ++ e → u5 ≡ t ++ (f ++ b ++ c ++ d ++ e)
five t u1 u2 u3 u4 u5 a b c d e f same e1 e2 e3 e4 e5 =
    e5 ∙ ap (λ x. x ++ e) (e4 ∙ ap (λ x. x ++ d) (e3 ∙ ap (λ x. x ++ c) (e2 ∙ ap (λ x. x ++ b) (e1 ∙ ap (λ x. t ++ x) same)))) ∙ simp append_assoc

pub five_second : (t u1 u2 u3 u4 u5 a b c d e f : List ℕ) → u1 ≡ t ++ a → u2 ≡ u1 ++ b → u3 ≡ u2 ++ c → u4 ≡ u3 ++ d → u5 ≡ u4 ++ e → b ≡ f → u5 ≡ t ++ (a ++ f ++ c ++ d ++ e)
five_second t u1 u2 u3 u4 u5 a b c d e f e1 e2 e3 e4 e5 same =
    e5 ∙ ap (λ x. x ++ e) (e4 ∙ ap (λ x. x ++ d) (e3 ∙ ap (λ x. x ++ c) (e2 ∙ (λ i. e1 i ++ same i)))) ∙ simp append_assoc
