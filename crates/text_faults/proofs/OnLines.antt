-- What is found on a line that is parsed.
use Rattle.text_faults.proofs.Common.{◌≡◌, ◌<◌, ◌+◌, ◌++◌, arith, ℕ, Bool, true, false, cond, List, [], ◌∷◌, length, map, refl, ap, sym, ◌∙◌, append_assoc, Option, Some, None, is_utf8, Fault, Wrong, NotUtf8, Parsed, LinesAbove, PlacedWord, placed_of, placed_from, placed_words, Form, head_of, form_of, first_placed_word, behind_first, IsParse, Wronged, wronged, misplaced, first_wrong, operand_wrong, unreadable, with_wronged, all_wronged, if_read, fault_of}

pub no_form : (form : Form) → length form < 1 → form ≡ []
no_form [] lt = refl
no_form (k ∷ ks) lt = absurd (let h : length (k ∷ ks) < 1 = lt in omega arith)

pub no_text : (inside : Bool) (line : List ℕ) (ps : List PlacedWord) → is_utf8 line ≡ false → ◌≡◌ {A = Option Wronged} (Some (record { column = 1; word = []; wrong = NotUtf8 })) (unreadable inside line ps)
no_text inside line ps e = ap (λ b. cond b (operand_wrong (misplaced inside (head_of ps)) ps) (Some (record { column = 1; word = []; wrong = NotUtf8 }))) (sym e)

is_text : (inside : Bool) (line : List ℕ) (ps : List PlacedWord) → is_utf8 line ≡ true → operand_wrong (misplaced inside (head_of ps)) ps ≡ unreadable inside line ps
is_text inside line ps e = ap (λ b. cond b (operand_wrong (misplaced inside (head_of ps)) ps) (Some (record { column = 1; word = []; wrong = NotUtf8 }))) (sym e)

module _ (p : Parsed) (parsed : IsParse p) (inside : Bool) (utf8 : is_utf8 p.line.now ≡ true) where
  pub wrong_word : (wrong : Wrong) (r : Option Wrong) → r ≡ misplaced inside p.head → r ≡ Some wrong → ◌≡◌ {A = Option Wronged} (Some (wronged (placed_of p.first) wrong)) (unreadable inside p.line.now (placed_words p.line.now))
  wrong_word wrong r is some =
      ap (λ q. Some (wronged q wrong)) parsed.first
      ∙ ap (λ o. operand_wrong o (placed_words p.line.now)) (sym some ∙ is ∙ ap (misplaced inside) parsed.head)
      ∙ is_text inside p.line.now (placed_words p.line.now) utf8

  pub right_word : (r : Option Wrong) (o : Option Wronged) → r ≡ misplaced inside p.head → r ≡ None → o ≡ first_wrong (p.first.column + length p.first.word.now) p.form.now (placed_from p.line.now p.rest) → o ≡ unreadable inside p.line.now (placed_words p.line.now)
  right_word r o is none found =
      found
      ∙ ap (λ (q : PlacedWord). first_wrong (q.column + length q.word) p.form.now (placed_from p.line.now p.rest)) parsed.first
      ∙ ap (λ form. first_wrong ((first_placed_word (placed_words p.line.now)).column + length (first_placed_word (placed_words p.line.now)).word) form (placed_from p.line.now p.rest)) parsed.form
      ∙ ap (first_wrong ((first_placed_word (placed_words p.line.now)).column + length (first_placed_word (placed_words p.line.now)).word) (form_of (placed_words p.line.now))) parsed.rest
      ∙ ap (λ o. operand_wrong o (placed_words p.line.now)) (sym none ∙ is ∙ ap (misplaced inside) parsed.head)
      ∙ is_text inside p.line.now (placed_words p.line.now) utf8

-- faults are added one after the other
module _ (f : Wronged → Fault) where
  pub one_more : (o : Option Wronged) (fs : List Wronged) → map f (with_wronged o fs) ≡ map f (with_wronged o []) ++ map f fs
  one_more (Some x) fs = refl
  one_more None fs = refl

  put : (t u : List Fault) (o : Option Wronged) (fs : List Wronged) → u ≡ t ++ map f (with_wronged o []) → u ++ map f fs ≡ t ++ map f (with_wronged o fs)
  put t u o fs e =
      ap (λ x. x ++ map f fs) e
      ∙ append_assoc t (map f (with_wronged o [])) (map f fs)
      ∙ ap (λ x. t ++ x) (sym (one_more o fs))

  pub six_added : (a b c d e g : Option Wronged) (t t1 t2 t3 t4 t5 t6 : List Fault) → t1 ≡ t ++ map f (with_wronged a []) → t2 ≡ t1 ++ map f (with_wronged b []) → t3 ≡ t2 ++ map f (with_wronged c []) → t4 ≡ t3 ++ map f (with_wronged (if_read a d) []) → t5 ≡ t4 ++ map f (with_wronged e []) → t6 ≡ t5 ++ map f (with_wronged (if_read a g) [])
      → t6 ≡ t ++ map f (all_wronged a b c d e g)
  six_added a b c d e g t t1 t2 t3 t4 t5 t6 e1 e2 e3 e4 e5 e6 =
      e6
      ∙ put t4 t5 e (with_wronged (if_read a g) []) e5
      ∙ put t3 t4 (if_read a d) (with_wronged e (with_wronged (if_read a g) [])) e4
      ∙ put t2 t3 c (with_wronged (if_read a d) (with_wronged e (with_wronged (if_read a g) []))) e3
      ∙ put t1 t2 b (with_wronged c (with_wronged (if_read a d) (with_wronged e (with_wronged (if_read a g) [])))) e2
      ∙ put t t1 a (with_wronged b (with_wronged c (with_wronged (if_read a d) (with_wronged e (with_wronged (if_read a g) []))))) e1
