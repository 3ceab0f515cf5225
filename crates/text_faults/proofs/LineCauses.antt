-- The first cause on a line, for the reader and here.
use Rattle.text_faults.proofs.Common.{◌≡◌, ◌+◌, ◌&&◌, ◌||◌, ℕ, Bool, true, false, cond, List, [], ◌∷◌, length, refl, ap, sym, ◌∙◌, true≢false, Option, Some, None, not, nat_le, codes, is_utf8, is_last, Cause, Head, Blank, Begin, End, Label, Order, Unknown, Verb, Outline, is_noted, head_of_words, operands_of, sense_of, head_of_line, operands_of_line, is_open_after, looped_name, LineContext, is_begin, is_misplaced, has_wrong_operand, is_second, names_no_function, names_no_label, lacks_main, is_too_many, function_limit, order_limit, first_cause, line_cause, fault_on, Wrong, NotUtf8, InsideFunction, OpenFunction, NoMain, ManyFunctions, ManyInstructions, LinesAbove, PlacedWord, placed_words, head_form, head_of, form_of, first_placed_word, behind_first, Wronged, wrong_if, misplaced, first_wrong, operand_wrong, unreadable, nested, left_open, first_misnamed, main_missing, too_many, with_wronged, if_read, all_wronged, wrongs_by, wrongs_on, cause_of_wrong, word_place}
use Rattle.program_reader.specs.declared.cause.Cause.TheVariants as reads
use Rattle.text_faults.proofs.WordsOf.{texts, texts_of, texts_behind, head_is}
use Rattle.text_faults.proofs.Senses.{Words, cause_in, cause_if, all_fit, wrong_unfit, senses_agree}
use Rattle.text_faults.proofs.NamesAgree.{name_cause, KnowsNames, KnowsLoop, names_agree}

-- ---- the first of what is wrong

abbrev pub first_in : List Wronged → Option Cause
first_in [] = None
first_in (f ∷ fs) = Some (cause_of_wrong f.wrong)

or_next : Option Cause → Option Cause → Option Cause
or_next (Some c) next = Some c
or_next None next = next

first_with : (o : Option Wronged) (fs : List Wronged) → first_in (with_wronged o fs) ≡ or_next (cause_in o) (first_in fs)
unfolding or_next
first_with (Some f) fs = refl
first_with None fs = refl

none_found : (o : Option Wronged) → cause_in o ≡ None → o ≡ None
none_found None e = refl
none_found (Some f) e = absurd (some_is_none (cause_of_wrong f.wrong) e)
  where
    some_is_none : (c : Cause) → ◌≡◌ {A = Option Cause} (Some c) None → ⊥
    some_is_none c e = cc

in_order : (nest opens second no_function no_label no_main many : Bool) → or_next (cause_if nest reads.NoEnd) (or_next (cause_if opens reads.NoEnd) (or_next (name_cause second no_function no_label) (or_next (cause_if no_main reads.NoMain) (or_next (cause_if many reads.TooMany) None))))
    ≡ first_cause false false (nest || opens) second no_function no_label no_main many
unfolding or_next
in_order true opens second no_function no_label no_main many = refl
in_order false true second no_function no_label no_main many = refl
in_order false false true no_function no_label no_main many = refl
in_order false false false true no_label no_main many = refl
in_order false false false false true no_main many = refl
in_order false false false false false true many = refl
in_order false false false false false false true = refl
in_order false false false false false false false = refl

-- what is found besides what makes a line unreadable
record Beside (nest opened names main many : Option Wronged) (n p second no_function no_label no_main t : Bool) : Type 0 where
  nest_is : cause_in nest ≡ cause_if n reads.NoEnd
  opened_is : cause_in opened ≡ cause_if p reads.NoEnd
  names_is : cause_in names ≡ name_cause second no_function no_label
  main_is : cause_in main ≡ cause_if no_main reads.NoMain
  many_is : cause_in many ≡ cause_if t reads.TooMany

readable : (nest opened names main many : Option Wronged) (n p second no_function no_label no_main t : Bool) → Beside nest opened names main many n p second no_function no_label no_main t
    → first_in (all_wronged None nest opened names main many) ≡ first_cause false false (n || p) second no_function no_label no_main t
readable nest opened names main many n p second no_function no_label no_main t h =
    first_with nest (with_wronged opened (with_wronged names (with_wronged main (with_wronged many []))))
    ∙ ap (λ x. or_next x (first_in (with_wronged opened (with_wronged names (with_wronged main (with_wronged many [])))))) h.nest_is
    ∙ ap (or_next (cause_if n reads.NoEnd))
    (first_with opened (with_wronged names (with_wronged main (with_wronged many [])))
    ∙ ap (λ x. or_next x (first_in (with_wronged names (with_wronged main (with_wronged many []))))) h.opened_is
    ∙ ap (or_next (cause_if p reads.NoEnd))
    (first_with names (with_wronged main (with_wronged many []))
    ∙ ap (λ x. or_next x (first_in (with_wronged main (with_wronged many [])))) h.names_is
    ∙ ap (or_next (name_cause second no_function no_label))
    (first_with main (with_wronged many [])
    ∙ ap (λ x. or_next x (first_in (with_wronged many []))) h.main_is
    ∙ ap (or_next (cause_if no_main reads.NoMain))
    (first_with many [] ∙ ap (λ x. or_next x None) h.many_is))))
    ∙ in_order n p second no_function no_label no_main t

unread : (u nest opened names main many : Option Wronged) (c : Cause) → cause_in u ≡ Some c → first_in (all_wronged u nest opened names main many) ≡ Some c
unfolding or_next
unread u nest opened names main many c e =
    first_with u (with_wronged nest (with_wronged opened (with_wronged (if_read u names) (with_wronged main (with_wronged (if_read u many) [])))))
    ∙ ap (λ x. or_next x (first_in (with_wronged nest (with_wronged opened (with_wronged (if_read u names) (with_wronged main (with_wronged (if_read u many) []))))))) e

-- the first cause of all that is found is the reader's, by what each test says
by_tests : (u nest opened names main many : Option Wronged) (word operand n p second no_function no_label no_main t : Bool)
    → cause_in u ≡ cond word (Some reads.Word) (cause_if operand reads.Operand)
    → (word ≡ false → operand ≡ false → Beside nest opened names main many n p second no_function no_label no_main t)
    → first_in (all_wronged u nest opened names main many) ≡ first_cause word operand (n || p) second no_function no_label no_main t
by_tests u nest opened names main many true operand n p second no_function no_label no_main t e h = unread u nest opened names main many reads.Word e
by_tests u nest opened names main many false true n p second no_function no_label no_main t e h = unread u nest opened names main many reads.Operand e
by_tests u nest opened names main many false false n p second no_function no_label no_main t e h =
    ap (λ x. first_in (all_wronged x nest opened names main many)) (none_found u e)
    ∙ readable nest opened names main many n p second no_function no_label no_main t (h refl refl)

-- ---- each test

if_wrong : (b : Bool) (p : PlacedWord) (wrong : Wrong) → cause_in (wrong_if b p wrong) ≡ cause_if b (cause_of_wrong wrong)
if_wrong true p wrong = refl
if_wrong false p wrong = refl

operand_cause : (inside : Bool) (h : Head) (ps : List PlacedWord) (r : Option Cause) → cause_in (operand_wrong None ps) ≡ r → cause_in (operand_wrong (misplaced inside h) ps) ≡ cond (is_misplaced inside h) (Some reads.Word) r
operand_cause true Unknown ps r e = refl
operand_cause true Blank ps r e = e
operand_cause true Begin ps r e = e
operand_cause true End ps r e = e
operand_cause true Label ps r e = e
operand_cause true (Order v) ps r e = e
operand_cause false Blank ps r e = e
operand_cause false Begin ps r e = e
operand_cause false End ps r e = refl
operand_cause false Label ps r e = refl
operand_cause false (Order v) ps r e = refl
operand_cause false Unknown ps r e = refl

too_many_is : (w : LinesAbove) (s : LineContext) (h : Head) (p : PlacedWord) → w.begun ≡ s.begun → w.orders ≡ s.orders → cause_in (too_many w h p) ≡ cause_if (is_too_many s h) reads.TooMany
too_many_is w s Begin p b o = if_wrong (nat_le function_limit w.begun) p ManyFunctions ∙ ap (λ n. cause_if (nat_le function_limit n) reads.TooMany) b
too_many_is w s (Order v) p b o = if_wrong (nat_le order_limit w.orders) p ManyInstructions ∙ ap (λ n. cause_if (nat_le order_limit n) reads.TooMany) o
too_many_is w s Blank p b o = refl
too_many_is w s End p b o = refl
too_many_is w s Label p b o = refl
too_many_is w s Unknown p b o = refl

placed_inside : (inside : Bool) (h : Head) (v : Verb) → is_misplaced inside h ≡ false → h ≡ Order v → inside ≡ true
placed_inside true h v e d = refl
placed_inside false h v e d = absurd (true≢false (ap (is_misplaced false) (sym d) ∙ e))

unfit : (b : Bool) → not b ≡ false → b ≡ true
unfit true e = refl
unfit false e = absurd (true≢false e)

-- the walk is where the spot is
pub record IsSpot (o : Outline) (s : LineContext) (w : LinesAbove) : Type 0 where
  pub inside : w.inside ≡ s.inside
  pub begun : w.begun ≡ s.begun
  pub orders : w.orders ≡ s.orders
  pub names : KnowsNames o s w

-- ---- a line

module _ (o : Outline) (s : LineContext) (w : LinesAbove) (at : IsSpot o s w) (line : List ℕ) where
  form_is : form_of (placed_words line) ≡ head_form (head_of_line line)
  form_is = ap head_form (head_is line)

  words_are : texts (behind_first (placed_words line)) ≡ operands_of_line line
  words_are = texts_behind (placed_words line) ∙ ap operands_of (texts_of line)

  fits_are : all_fit (form_of (placed_words line)) (texts (behind_first (placed_words line))) ≡ all_fit (head_form (head_of_line line)) (operands_of_line line)
  fits_are = ap (λ f. all_fit f (texts (behind_first (placed_words line)))) form_is ∙ ap (all_fit (head_form (head_of_line line))) words_are

  wrong_operand : cause_in (operand_wrong None (placed_words line)) ≡ cause_if (has_wrong_operand (sense_of o s.labels (head_of_line line) (operands_of_line line))) reads.Operand
  wrong_operand =
      wrong_unfit ((first_placed_word (placed_words line)).column + length (first_placed_word (placed_words line)).word) (form_of (placed_words line)) (behind_first (placed_words line))
      ∙ ap (λ b. cause_if (not b) reads.Operand) fits_are
      ∙ ap (λ b. cause_if b reads.Operand) (senses_agree o s.labels (head_of_line line) (operands_of_line line))

  unreadable_is : cause_in (operand_wrong (misplaced w.inside (head_of (placed_words line))) (placed_words line)) ≡ cond (is_misplaced s.inside (head_of_line line)) (Some reads.Word) (cause_if (has_wrong_operand (sense_of o s.labels (head_of_line line) (operands_of_line line))) reads.Operand)
  unreadable_is =
      ap (λ b. cause_in (operand_wrong (misplaced b (head_of (placed_words line))) (placed_words line))) at.inside
      ∙ ap (λ h. cause_in (operand_wrong (misplaced s.inside h) (placed_words line))) (head_is line)
      ∙ operand_cause s.inside (head_of_line line) (placed_words line) _ wrong_operand

  nested_is : cause_in (nested w (placed_words line)) ≡ cause_if (s.inside && is_begin (head_of_line line)) reads.NoEnd
  nested_is =
      if_wrong (w.inside && is_begin (head_of (placed_words line))) (first_placed_word (placed_words line)) InsideFunction
      ∙ ap (λ b. cause_if (b && is_begin (head_of (placed_words line))) reads.NoEnd) at.inside
      ∙ ap (λ h. cause_if (s.inside && is_begin h) reads.NoEnd) (head_is line)

  open_is_left : cause_in (left_open w s.last (placed_words line)) ≡ cause_if (s.last && is_open_after (head_of_line line) s.inside) reads.NoEnd
  open_is_left =
      if_wrong (s.last && is_open_after (head_of (placed_words line)) w.inside) (word_place (first_placed_word (placed_words line))) OpenFunction
      ∙ ap (λ b. cause_if (s.last && is_open_after (head_of (placed_words line)) b) reads.NoEnd) at.inside
      ∙ ap (λ h. cause_if (s.last && is_open_after h s.inside) reads.NoEnd) (head_is line)

  main_is_missing : cause_in (main_missing w s.last (placed_words line)) ≡ cause_if (lacks_main o s) reads.NoMain
  main_is_missing =
      if_wrong (s.last && not (is_noted w.outline.functions (codes "main"))) (word_place (first_placed_word (placed_words line))) NoMain
      ∙ ap (λ es. cause_if (s.last && not (is_noted es (codes "main"))) reads.NoMain) at.names.all

  too_many_are : cause_in (too_many w (head_of (placed_words line)) (first_placed_word (placed_words line))) ≡ cause_if (is_too_many s (head_of_line line)) reads.TooMany
  too_many_are =
      ap (λ h. cause_in (too_many w h (first_placed_word (placed_words line)))) (head_is line)
      ∙ too_many_is w s (head_of_line line) (first_placed_word (placed_words line)) at.begun at.orders

  names_are : KnowsLoop o (head_of_line line) (operands_of_line line) → is_misplaced s.inside (head_of_line line) ≡ false → has_wrong_operand (sense_of o s.labels (head_of_line line) (operands_of_line line)) ≡ false
      → cause_in (first_misnamed w (form_of (placed_words line)) (behind_first (placed_words line))) ≡ name_cause (is_second s (head_of_line line) (operands_of_line line)) (names_no_function (sense_of o s.labels (head_of_line line) (operands_of_line line))) (names_no_label (sense_of o s.labels (head_of_line line) (operands_of_line line)))
  names_are loop placed fits =
      let fit : all_fit (head_form (head_of_line line)) (texts (behind_first (placed_words line))) ≡ true =
      ap (all_fit (head_form (head_of_line line))) words_are ∙ unfit (all_fit (head_form (head_of_line line)) (operands_of_line line)) (senses_agree o s.labels (head_of_line line) (operands_of_line line) ∙ fits) in
      let agree =
      names_agree o s w at.names (head_of_line line) (behind_first (placed_words line)) (λ v e. placed_inside s.inside (head_of_line line) v placed e)
      (λ name e. loop name (ap (looped_name (head_of_line line)) (sym words_are) ∙ e)) fit in
      ap (λ f. cause_in (first_misnamed w f (behind_first (placed_words line)))) form_is
      ∙ agree
      ∙ ap (λ ws. name_cause (is_second s (head_of_line line) ws) (names_no_function (sense_of o s.labels (head_of_line line) ws)) (names_no_label (sense_of o s.labels (head_of_line line) ws))) words_are

  by_utf8 : KnowsLoop o (head_of_line line) (operands_of_line line) → (b : Bool)
      → first_in (all_wronged (cond b (operand_wrong (misplaced w.inside (head_of (placed_words line))) (placed_words line)) (Some (record { column = 1; word = []; wrong = NotUtf8 }))) (nested w (placed_words line)) (left_open w s.last (placed_words line)) (first_misnamed w (form_of (placed_words line)) (behind_first (placed_words line))) (main_missing w s.last (placed_words line)) (too_many w (head_of (placed_words line)) (first_placed_word (placed_words line))))
      ≡ cond b (line_cause o s (head_of_line line) (operands_of_line line) (sense_of o s.labels (head_of_line line) (operands_of_line line))) (Some reads.NotUtf8)
  by_utf8 loop false = refl
  by_utf8 loop true =
      by_tests (operand_wrong (misplaced w.inside (head_of (placed_words line))) (placed_words line)) (nested w (placed_words line)) (left_open w s.last (placed_words line)) (first_misnamed w (form_of (placed_words line)) (behind_first (placed_words line))) (main_missing w s.last (placed_words line)) (too_many w (head_of (placed_words line)) (first_placed_word (placed_words line)))
      (is_misplaced s.inside (head_of_line line)) (has_wrong_operand (sense_of o s.labels (head_of_line line) (operands_of_line line))) (s.inside && is_begin (head_of_line line)) (s.last && is_open_after (head_of_line line) s.inside)
      (is_second s (head_of_line line) (operands_of_line line)) (names_no_function (sense_of o s.labels (head_of_line line) (operands_of_line line))) (names_no_label (sense_of o s.labels (head_of_line line) (operands_of_line line))) (lacks_main o s) (is_too_many s (head_of_line line))
      unreadable_is
      (λ placed fits. record { nest_is = nested_is; opened_is = open_is_left; names_is = names_are loop placed fits; main_is = main_is_missing; many_is = too_many_are })

  -- the first cause of what is wrong on a line is the reader's
  pub first_is_fault : KnowsLoop o (head_of_line line) (operands_of_line line) → first_in (wrongs_on w s.last line) ≡ fault_on o s line
  first_is_fault loop = by_utf8 loop (is_utf8 line)
