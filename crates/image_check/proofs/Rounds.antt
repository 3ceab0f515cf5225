-- One more line is checked.
use Rattle.image_check.proofs.Common.{Bor, ◌≡◌, ◌+◌, ℕ, Bool, List, [], ◌∷◌, length, refl, ap, sym, ◌∙◌, subst, Option, Some, None, Result, Ok, Err, IfNone, IfOk, IsErr, IsOkAnd, MatchResult, not, is_some, MatchOption, not-not, is_last, lines_of, some_line, Read, Whole, ImageCause, ImageFault, line_meaning, nothing_read, after_line, whole_of, cause_on, or_later_line, fault_from_line, lines_fault, after_lines, objects_in, Verifies}

-- the lines after the first, if there are any
pub record Below (rest line : List ℕ) (more : Option (Bor (List ℕ))) : Type 0 where
  pub lines : List (List ℕ)
  pub cut : lines_of rest ≡ line ∷ lines
  pub ends : not (is_some more) ≡ is_last lines

pub below : (rest line : List ℕ) (more : Option (Bor (List ℕ))) → MatchOption more (lines_of rest ≡ line ∷ []) (λ b. lines_of rest ≡ line ∷ lines_of b.now) → Below rest line more
below rest line None e = record { lines = []; cut = e; ends = refl }
below rest line (Some b) e = record { lines = lines_of b.now; cut = e; ends = sym (some_line b.now) }

-- how far a text is checked
pub record IsChecked (text : List ℕ) (w : Whole) (start r : Read) (n : ℕ) (ls : List (List ℕ)) : Type 0 where
  pub faults : fault_from_line w r n ls ≡ fault_from_line w start 1 (lines_of text)
  pub reads : after_lines r ls ≡ after_lines start (lines_of text)

module _ (text : List ℕ) (w : Whole) (start r : Read) (n : ℕ) (l : List ℕ) (ls : List (List ℕ)) (last : Bool) (is : IsChecked text w start r n (l ∷ ls)) (ends : last ≡ is_last ls) where
  by_cause : (o : Option ImageCause) → o ≡ cause_on w r last (line_meaning l) → or_later_line o n (fault_from_line w (after_line r (line_meaning l)) (n + 1) ls) ≡ fault_from_line w start 1 (lines_of text)
  by_cause o e = ap (λ c. or_later_line c n (fault_from_line w (after_line r (line_meaning l)) (n + 1) ls)) (e ∙ ap (λ b. cause_on w r b (line_meaning l)) ends) ∙ is.faults

  pub fault_here : (c : ImageCause) → Some c ≡ cause_on w r last (line_meaning l) → Some (record { line = n; cause = c }) ≡ fault_from_line w start 1 (lines_of text)
  fault_here c e = by_cause (Some c) e

  pub checked_more : (s : Read) → None ≡ cause_on w r last (line_meaning l) → s ≡ after_line r (line_meaning l) → IsChecked text w start s (n + 1) ls
  checked_more s none e = record {
    faults = ap (λ x. fault_from_line w x (n + 1) ls) e ∙ by_cause None none;
    reads = ap (λ x. after_lines x ls) e ∙ is.reads;
  }

pub flipped : (a b : Bool) → a ≡ not b → b ≡ not a
flipped a b e = sym (not-not b) ∙ ap not (sym e)

-- the verifier's answer
answers_count : (text : List ℕ) (r s : Read) (n : ℕ) → r ≡ nothing_read → s ≡ after_lines r (lines_of text) → n ≡ length s.objects → n ≡ objects_in text
answers_count text r s n er es e = e ∙ ap (λ x. length x.objects) es ∙ ap (λ x. length (after_lines x (lines_of text)).objects) er

module _ (text : List ℕ) (w : Whole) (r s : Read) (n : ℕ) (ew : w ≡ whole_of text) (er : r ≡ nothing_read) (en : n ≡ length s.objects) where
  same_fault : (o : Option ImageFault) → o ≡ fault_from_line w r 1 (lines_of text) → lines_fault text ≡ o
  same_fault o e = ap (λ x. fault_from_line x nothing_read 1 (lines_of text)) (sym ew) ∙ ap (λ x. fault_from_line w x 1 (lines_of text)) (sym er) ∙ sym e

  answers_one : (o : Option ImageFault) (a : Result ℕ ImageFault) → o ≡ fault_from_line w r 1 (lines_of text) → IfNone o (s ≡ after_lines r (lines_of text)) → Verifies o n a → Verifies (lines_fault text) (objects_in text) a
  answers_one o (Ok count) e added h = (same_fault o e ∙ h.0, h.1 ∙ answers_count text r s n er (subst (λ x. IfNone x (s ≡ after_lines r (lines_of text))) h.0 added) en)
  answers_one o (Err f) e added h = same_fault o e ∙ h

  pub answers_by : {E F : Type 0} (f : Result (Option ImageFault) E) (a : Result (Result ℕ ImageFault) F) → IfOk f (λ o. o ≡ fault_from_line w r 1 (lines_of text))
      → IfOk f (λ o. IfNone o (s ≡ after_lines r (lines_of text))) → MatchResult f (λ o. IsOkAnd a (Verifies o n)) (λ x. IsErr a) → IfOk a (Verifies (lines_fault text) (objects_in text))
  answers_by (Ok o) (Ok b) e added is = answers_one o b e added is
  answers_by f (Err y) e added is = tt
  answers_by (Err x) (Ok b) e added is = absurd (cc)
