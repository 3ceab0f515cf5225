-- What is added to a text piece by piece.
use Rattle.fault_lines.proofs.Common.{◌≡◌, ◌<◌, ◌≤◌, ◌+◌, ◌++◌, ◌∷◌, [], ℕ, List, length, take, drop, get_or, arith, refl, ap, sym, ◌∙◌, append_assoc, codes, flat_map, flat_map_more, take_more, Number, Word, first_member, more_member, text_of_cause, Fault, cause_of_wrong, expected, near_piece, fault_piece, further_piece, pieces}

eight : (t a b c d e n z : List ℕ) → (((((((t ++ 123 ∷ []) ++ a) ++ b) ++ c) ++ d) ++ e) ++ n) ++ z ≡ t ++ 123 ∷ (a ++ b ++ c ++ d ++ e ++ n ++ z)
eight t a b c d e n z = simp append_assoc

pub piece_added : (f : Fault) (t u1 u2 u3 u4 u5 u6 u7 u8 w k x : List ℕ)
    → u1 ≡ t ++ 123 ∷ [] → u2 ≡ u1 ++ first_member (codes "line") (Number f.line) → u3 ≡ u2 ++ more_member (codes "column") (Number f.column)
    → w ≡ f.word → u4 ≡ u3 ++ more_member (codes "word") (Word w)
    → k ≡ text_of_cause (cause_of_wrong f.wrong) → u5 ≡ u4 ++ more_member (codes "cause") (Word k)
    → x ≡ expected f.wrong → u6 ≡ u5 ++ more_member (codes "expected") (Word x)
    → u7 ≡ u6 ++ near_piece f.near → u8 ≡ u7 ++ 125 ∷ [] → u8 ≡ t ++ fault_piece f
piece_added f t u1 u2 u3 u4 u5 u6 u7 u8 w k x e1 e2 e3 ew e4 ek e5 ex e6 e7 e8 =
    e8
    ∙ ap (λ y. y ++ 125 ∷ []) (e7
    ∙ ap (λ y. y ++ near_piece f.near) (e6 ∙ ap (λ v. u5 ++ more_member (codes "expected") (Word v)) ex
    ∙ ap (λ y. y ++ more_member (codes "expected") (Word (expected f.wrong))) (e5 ∙ ap (λ v. u4 ++ more_member (codes "cause") (Word v)) ek
    ∙ ap (λ y. y ++ more_member (codes "cause") (Word (text_of_cause (cause_of_wrong f.wrong)))) (e4 ∙ ap (λ v. u3 ++ more_member (codes "word") (Word v)) ew
    ∙ ap (λ y. y ++ more_member (codes "word") (Word f.word)) (e3
    ∙ ap (λ y. y ++ more_member (codes "column") (Number f.column)) (e2
    ∙ ap (λ y. y ++ first_member (codes "line") (Number f.line)) e1))))))
    ∙ eight t (first_member (codes "line") (Number f.line)) (more_member (codes "column") (Number f.column)) (more_member (codes "word") (Word f.word))
    (more_member (codes "cause") (Word (text_of_cause (cause_of_wrong f.wrong)))) (more_member (codes "expected") (Word (expected f.wrong))) (near_piece f.near) (125 ∷ [])

behind_comma : (t p : List ℕ) → ((t ++ 44 ∷ []) ++ 10 ∷ []) ++ p ≡ t ++ 44 ∷ 10 ∷ p
behind_comma t p = simp append_assoc

pub further_added : (f : Fault) (t u v w : List ℕ) → u ≡ t ++ 44 ∷ [] → v ≡ u ++ 10 ∷ [] → w ≡ v ++ fault_piece f → w ≡ t ++ further_piece f
further_added f t u v w a b e = e ∙ ap (λ y. y ++ fault_piece f) (b ∙ ap (λ y. y ++ 10 ∷ []) a) ∙ behind_comma t (fault_piece f)

pub more_shown : (fs : List Fault) (i : ℕ) (f : Fault) (old new : List ℕ) → i < length fs → f ≡ get_or fs i f → old ≡ flat_map further_piece (take i fs) → new ≡ old ++ further_piece f → new ≡ flat_map further_piece (take (i + 1) fs)
more_shown fs i f old new lt is e d =
    d ∙ ap (λ x. x ++ further_piece f) e ∙ flat_map_more further_piece [] (take i fs) f
    ∙ ap (flat_map further_piece) (ap (λ x. take i fs ++ x ∷ []) is ∙ sym (take_more fs i f lt))

pub some_added : (t u v a b y : List ℕ) → u ≡ t ++ a → v ≡ u ++ b → b ≡ y → v ≡ t ++ (a ++ y)
some_added t u v a b y d e q = e ∙ ap (λ x. x ++ b) d ∙ append_assoc t a b ∙ ap (λ x. t ++ (a ++ x)) q

pub pieces_are : (fs ys : List Fault) (f : Fault) → 1 ≤ length fs → f ≡ get_or fs 0 f → ys ≡ drop 1 fs → fault_piece f ++ flat_map further_piece ys ≡ pieces fs
pieces_are [] ys f lt is same = absurd (let h : 1 ≤ 0 = lt in omega arith)
pieces_are (x ∷ xs) ys f lt is same = λ i. fault_piece (is i) ++ flat_map further_piece (same i)
