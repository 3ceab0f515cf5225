-- The pieces of a text are the text of its JSON value.
use Rattle.fault_lines.proofs.Common.{◌≡◌, ℕ, List, [], ◌∷◌, ◌++◌, map, refl, ap, sym, ◌∙◌, append_assoc, append-nil, Option, Some, None, codes, flat_map, decimal, quoted, Json, Number, Word, json, values, more_values, more_members, text_of_cause, Fault, cause_of_wrong, expected, near_members, near_piece, fault_value, fault_piece, further_piece, pieces, array_text, faults_json}

near_is : (o : Option (List ℕ)) → near_piece o ≡ more_members (near_members o)
near_is None = refl
near_is (Some w) = last (quoted (codes "near")) (quoted w)
  where
    last : (a b : List ℕ) → 44 ∷ (a ++ 58 ∷ b) ≡ 44 ∷ (a ++ 58 ∷ (b ++ []))
    last a b = simp append-nil

fault_is : (f : Fault) → fault_piece f ≡ json (fault_value f)
fault_is f =
    flat (58 ∷ []) (44 ∷ []) (125 ∷ [])
    (quoted (codes "line")) (decimal f.line) (quoted (codes "column")) (decimal f.column) (quoted (codes "word")) (quoted f.word)
    (quoted (codes "cause")) (quoted (text_of_cause (cause_of_wrong f.wrong))) (quoted (codes "expected")) (quoted (expected f.wrong)) (near_piece f.near)
    ∙ ap (λ m. 123 ∷ ((quoted (codes "line") ++ 58 ∷ (decimal f.line ++ 44 ∷ (quoted (codes "column") ++ 58 ∷ (decimal f.column ++ 44 ∷ (quoted (codes "word") ++ 58 ∷ (quoted f.word ++ 44 ∷ (quoted (codes "cause") ++ 58 ∷ (quoted (text_of_cause (cause_of_wrong f.wrong)) ++ 44 ∷ (quoted (codes "expected") ++ 58 ∷ (quoted (expected f.wrong) ++ m)))))))))) ++ 125 ∷ [])) (near_is f.near)
  where
    flat : (s y z a b c d e g h i k l m : List ℕ)
        → 123 ∷ ((a ++ (s ++ b)) ++ (y ++ (c ++ (s ++ d))) ++ (y ++ (e ++ (s ++ g))) ++ (y ++ (h ++ (s ++ i))) ++ (y ++ (k ++ (s ++ l))) ++ m ++ z)
        ≡ 123 ∷ ((a ++ (s ++ (b ++ (y ++ (c ++ (s ++ (d ++ (y ++ (e ++ (s ++ (g ++ (y ++ (h ++ (s ++ (i ++ (y ++ (k ++ (s ++ (l ++ m))))))))))))))))))) ++ z)
    flat s y z a b c d e g h i k l m = simp append_assoc

further_are : (fs : List Fault) → flat_map further_piece fs ≡ more_values (values (map fault_value fs))
further_are [] = refl
further_are (f ∷ fs) =
    ap (λ x. (44 ∷ 10 ∷ x) ++ flat_map further_piece fs) (fault_is f)
    ∙ ap (λ x. 44 ∷ 10 ∷ (json (fault_value f) ++ x)) (further_are fs)

joined : (a b : List ℕ) → 91 ∷ ((a ++ b) ++ 93 ∷ 10 ∷ []) ≡ 91 ∷ ((a ++ b) ++ 93 ∷ []) ++ 10 ∷ []
joined a b = simp append_assoc

pub array_is : (fs : List Fault) → array_text fs ≡ faults_json fs
array_is [] = refl
array_is (f ∷ fs) =
    ap (λ x. 91 ∷ ((x ++ flat_map further_piece fs) ++ 93 ∷ 10 ∷ [])) (fault_is f)
    ∙ ap (λ x. 91 ∷ ((json (fault_value f) ++ x) ++ 93 ∷ 10 ∷ [])) (further_are fs)
    ∙ joined (json (fault_value f)) (more_values (values (map fault_value fs)))
