-- Texts are made of their parts.
use Rattle.log_report.proofs.Common.{◌≡◌, ◌∙◌, ◌++◌, ◌∷◌, ℕ, List, [], ap, codes, append_assoc, decimal}

pub cost_is : (work span : ℕ) (quotient same : List ℕ) → quotient ≡ same
    → codes "work " ++ (decimal work ++ (codes " span " ++ (decimal span ++ (codes " parallelism " ++ (quotient ++ 10 ∷ []))))) ≡ codes "work " ++ decimal work ++ codes " span " ++ decimal span ++ codes " parallelism " ++ same ++ codes "\n"
cost_is work span quotient same e = rw e (simp append_assoc)

pub end_is : (counts left some rest : List ℕ) → counts ≡ some → left ≡ rest → counts ++ (left ++ 10 ∷ []) ≡ some ++ rest ++ codes "\n"
end_is counts left some rest e f = rw (e, f) (simp append_assoc)

pub three : (t u1 u2 u3 a b c d e : List ℕ) → u1 ≡ t ++ a → u2 ≡ u1 ++ b → u3 ≡ u2 ++ c → a ≡ d → c ≡ e → u3 ≡ t ++ (d ++ b ++ e)
three t u1 u2 u3 a b c d e e1 e2 e3 same last = e3 ∙ (λ i. (e2 ∙ ap (λ (x : List ℕ). x ++ b) e1) i ++ last i) ∙ (λ i. ((t ++ same i) ++ b) ++ e) ∙ simp append_assoc
