-- No line of a program's text is a trace line.
use Rattle.round_trip_laws.proofs.Common.{◌≡◌, ◌∙◌, ◌++◌, ℕ, ◌+◌, Bool, cond, true, false, List, [], ◌∷◌, length, refl, ap, Option, Some, None, codes, is_utf8, bytes_eq-Decides, words_of, Cause, NotUtf8, TextFault, head_of_word, head_of_words, head_of_line, is_inside, outline_of, first_fault_from, fault_on, first_cause, is_misplaced, or_later_fault, spot_of, begins_trace, is_trace_line, lines_above, trace_lines}

-- none of these lines is one
abbrev pub AreAbove : List (List ℕ) → Type 0
AreAbove [] = Unit {0}
AreAbove (l ∷ ls) = (is_trace_line l ≡ false) × AreAbove ls

pub above_both : (xs ys : List (List ℕ)) → AreAbove (xs ++ ys) → AreAbove xs
above_both [] ys h = tt
above_both (x ∷ xs) ys h = (h.0, above_both xs ys h.1)

-- lines above the first trace line, that line and those after it
pub cut_above : (xs : List (List ℕ)) (l : List ℕ) (ls : List (List ℕ)) → AreAbove xs → is_trace_line l ≡ true → lines_above (xs ++ l ∷ ls) ≡ xs
cut_above [] l ls h is = rw is refl
cut_above (x ∷ xs) l ls h is = rw h.0 (ap (λ ys. x ∷ ys) (cut_above xs l ls h.1 is))

pub cut_behind : (xs : List (List ℕ)) (l : List ℕ) (ls : List (List ℕ)) → AreAbove xs → is_trace_line l ≡ true → trace_lines (xs ++ l ∷ ls) ≡ l ∷ ls
cut_behind [] l ls h is = rw is refl
cut_behind (x ∷ xs) l ls h is = rw h.0 (cut_behind xs l ls h.1 is)

-- FAULTS

-- `trace` begins no line of a program
trace_head : (ws : List (List ℕ)) → begins_trace ws ≡ true → head_of_words ws ≡ head_of_word (codes "trace")
trace_head [] e = let f : false ≡ true = e in cc
trace_head (w ∷ ws) e = ap head_of_word ((bytes_eq-Decides w (codes "trace")).0 e)

trace_misplaced : (inside : Bool) → is_misplaced inside (head_of_word (codes "trace")) ≡ true
trace_misplaced true = refl
trace_misplaced false = refl

has_fault : (c : Cause) → Some c ≡ None → ⊥
has_fault c e = cc

some_word : (b operand no_end two_names no_name no_label no_main too_many : Bool) → b ≡ true → first_cause b operand no_end two_names no_name no_label no_main too_many ≡ None → ⊥
some_word true o e t n l m k is none = has_fault _ none
some_word false o e t n l m k is none = let f : false ≡ true = is in cc

by_utf8 : (b : Bool) (f : Option Cause) → cond b f (Some NotUtf8) ≡ None → f ≡ None
by_utf8 true f e = e
by_utf8 false f e = absurd (has_fault NotUtf8 e)

refused_is : (r : TextFault) → Some r ≡ None → ⊥
refused_is r e = cc

none_later : (c : Option Cause) (n : ℕ) (later : Option TextFault) → or_later_fault c n later ≡ None → (c ≡ None) × (later ≡ None)
none_later None n later e = (refl, e)
none_later (Some c) n later e = absurd (refused_is (record { line = n; cause = c }) e)

module _ (text : List ℕ) where
  trace_fault : (above : List (List ℕ)) (l : List ℕ) (ls : List (List ℕ)) → is_trace_line l ≡ true → fault_on (outline_of text) (spot_of above l ls) l ≡ None → ⊥
  trace_fault above l ls is none =
      some_word (is_misplaced (is_inside above) (head_of_line l)) _ _ _ _ _ _ _
      (ap (is_misplaced (is_inside above)) (trace_head (words_of l) is) ∙ trace_misplaced (is_inside above))
      (by_utf8 (is_utf8 l) _ none)

  on_clean : (above : List (List ℕ)) (l : List ℕ) (ls : List (List ℕ)) (b : Bool) → is_trace_line l ≡ b → fault_on (outline_of text) (spot_of above l ls) l ≡ None → b ≡ false
  on_clean above l ls false is none = refl
  on_clean above l ls true is none = absurd (trace_fault above l ls is none)

  -- lines without a fault have none
  pub clean_above : (above ls : List (List ℕ)) → first_fault_from (outline_of text) above ls ≡ None → AreAbove ls
  clean_above above [] e = tt
  clean_above above (l ∷ ls) e =
      let h = none_later (fault_on (outline_of text) (spot_of above l ls) l) (length above + 1) (first_fault_from (outline_of text) (l ∷ above) ls) e in
      (on_clean above l ls (is_trace_line l) refl h.0, clean_above (l ∷ above) ls h.1)
