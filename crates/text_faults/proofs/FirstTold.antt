-- The first fault of a text.
use Rattle.text_faults.proofs.Common.{◌≡◌, ◌+◌, ◌++◌, ℕ, Bool, true, false, List, [], ◌∷◌, length, map, refl, ap, sym, ◌∙◌, arith, Option, Some, None, is_last, lines_of, Cause, TextFault, Outline, outline_of, spot_of, fault_on, or_later_fault, first_fault_from, first_fault, Fault, LinesAbove, Wronged, wrongs_on, fault_of, walked, walk_of, faults_from, faults_of, first_of_faults}
use Rattle.text_faults.proofs.LineCauses.{first_in, first_is_fault}
use Rattle.text_faults.proofs.Walks.{IsAt, goes_on, at_first, spot_at, AllKnown, text_known}

first_by : (w : LinesAbove) (n m : ℕ) (fs : List Wronged) (later : List Fault) → n ≡ m → first_of_faults (map (fault_of w n) fs ++ later) ≡ or_later_fault (first_in fs) m (first_of_faults later)
first_by w n m [] later e = refl
first_by w n m (f ∷ fs) later e = ap (λ k. or_later_fault (first_in (f ∷ fs)) k (first_of_faults later)) e

first_from : (o : Outline) (ls above : List (List ℕ)) (w : LinesAbove) (n : ℕ) → n ≡ length above + 1 → IsAt o w above ls → AllKnown o ls → first_of_faults (faults_from w n ls) ≡ first_fault_from o above ls
first_from o [] above w n number at known = refl
first_from o (l ∷ ls) above w n number at known =
    first_by w n (length above + 1) (wrongs_on w (is_last ls) l) (faults_from (walked w n l ls) (n + 1) ls) number
    ∙ ap (λ c. or_later_fault c (length above + 1) (first_of_faults (faults_from (walked w n l ls) (n + 1) ls))) (first_is_fault o (spot_of above l ls) w (spot_at o w above l ls at) l known.0)
    ∙ ap (or_later_fault (fault_on o (spot_of above l ls) l) (length above + 1))
    (first_from o ls (l ∷ above) (walked w n l ls) (n + 1) (next number) (goes_on o w above l ls n number at) known.1)
  where
    next : n ≡ length above + 1 → n + 1 ≡ length (l ∷ above) + 1
    next e = omega arith

pub first_is_told : (text : List ℕ) → first_of_faults (faults_of text) ≡ first_fault text
first_is_told text = first_from (outline_of text) (lines_of text) [] (walk_of (outline_of text)) 1 refl (at_first text) (text_known text)

none_by : (fs : List Fault) → first_of_faults fs ≡ None → fs ≡ []
none_by [] e = refl
none_by (f ∷ fs) e = absurd (cc)

pub none_in_programs : (text : List ℕ) → (faults_of text ≡ [] → first_fault text ≡ None) × (first_fault text ≡ None → faults_of text ≡ [])
none_in_programs text = (λ e. sym (first_is_told text) ∙ ap first_of_faults e, λ e. none_by (faults_of text) (first_is_told text ∙ e))
