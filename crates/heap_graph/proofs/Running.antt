-- The attributes of an edge into the heap of a running task, added one after the other.
use Rattle.heap_graph.proofs.Common.{◌≡◌, List, ◌∷◌, ◌++◌, ap, ◌∙◌, append_assoc, flat_map}

-- the texts of two, then of the rest, are those of all
pub two_added : {A B : Type 0} (f : A → List B) (a b : A) (xs : List A) (t u v w : List B) → u ≡ t ++ f a → v ≡ u ++ f b → w ≡ v ++ flat_map f xs → w ≡ t ++ flat_map f (a ∷ b ∷ xs)
two_added f a b xs t u v w d e g =
    g ∙ (ap (λ x. x ++ flat_map f xs) (e ∙ ap (λ x. x ++ f b) d)
    ∙ (append_assoc (t ++ f a) (f b) (flat_map f xs) ∙ append_assoc t (f a) (f b ++ flat_map f xs)))
