-- Which cause comes first.
use Rattle.program_reader.proofs.Common.{◌≡◌, ℕ, Bool, true, false, cond, List, refl, ap, sym, ◌∙◌, Option, Some, None, is_utf8, Cause, NotUtf8, Word, Operand, NoEnd, TwoNames, NoName, NoLabel, NoMain, TooMany, Head, Sense, Outline, LineContext, is_misplaced, has_wrong_operand, leaves_open, is_second, names_no_function, names_no_label, lacks_main, is_too_many, first_cause, line_cause, fault_on, sense_of, head_of_line, operands_of_line}

by_word : (a b c d e f g h : Bool) → a ≡ true → ◌≡◌ {A = Option Cause} (Some Word) (first_cause a b c d e f g h)
by_word a b c d e f g h pa = rw pa refl

by_operand : (a b c d e f g h : Bool) → a ≡ false → b ≡ true → ◌≡◌ {A = Option Cause} (Some Operand) (first_cause a b c d e f g h)
by_operand a b c d e f g h pa pb = rw (pa, pb) refl

by_no_end : (a b c d e f g h : Bool) → a ≡ false → b ≡ false → c ≡ true → ◌≡◌ {A = Option Cause} (Some NoEnd) (first_cause a b c d e f g h)
by_no_end a b c d e f g h pa pb pc = rw (pa, pb, pc) refl

by_two_names : (a b c d e f g h : Bool) → a ≡ false → b ≡ false → c ≡ false → d ≡ true → ◌≡◌ {A = Option Cause} (Some TwoNames) (first_cause a b c d e f g h)
by_two_names a b c d e f g h pa pb pc pd = rw (pa, pb, pc, pd) refl

by_no_name : (a b c d e f g h : Bool) → a ≡ false → b ≡ false → c ≡ false → d ≡ false → e ≡ true → ◌≡◌ {A = Option Cause} (Some NoName) (first_cause a b c d e f g h)
by_no_name a b c d e f g h pa pb pc pd pe = rw (pa, pb, pc, pd, pe) refl

by_no_label : (a b c d e f g h : Bool) → a ≡ false → b ≡ false → c ≡ false → d ≡ false → e ≡ false → f ≡ true → ◌≡◌ {A = Option Cause} (Some NoLabel) (first_cause a b c d e f g h)
by_no_label a b c d e f g h pa pb pc pd pe pf = rw (pa, pb, pc, pd, pe, pf) refl

by_no_main : (a b c d e f g h : Bool) → a ≡ false → b ≡ false → c ≡ false → d ≡ false → e ≡ false → f ≡ false → g ≡ true → ◌≡◌ {A = Option Cause} (Some NoMain) (first_cause a b c d e f g h)
by_no_main a b c d e f g h pa pb pc pd pe pf pg = rw (pa, pb, pc, pd, pe, pf, pg) refl

by_too_many : (a b c d e f g h : Bool) → a ≡ false → b ≡ false → c ≡ false → d ≡ false → e ≡ false → f ≡ false → g ≡ false → h ≡ true → ◌≡◌ {A = Option Cause} (Some TooMany) (first_cause a b c d e f g h)
by_too_many a b c d e f g h pa pb pc pd pe pf pg ph = rw (pa, pb, pc, pd, pe, pf, pg, ph) refl

by_none : (a b c d e f g h : Bool) → a ≡ false → b ≡ false → c ≡ false → d ≡ false → e ≡ false → f ≡ false → g ≡ false → h ≡ false → ◌≡◌ {A = Option Cause} None (first_cause a b c d e f g h)
by_none a b c d e f g h pa pb pc pd pe pf pg ph = rw (pa, pb, pc, pd, pe, pf, pg, ph) refl

-- the first cause on a line, by its tests

module _ (o : Outline) (s : LineContext) (h : Head) (ws : List (List ℕ)) (x : Sense) where
  pub gives_word : is_misplaced s.inside h ≡ true → ◌≡◌ {A = Option Cause} (Some Word) (line_cause o s h ws x)
  gives_word = by_word (is_misplaced s.inside h) (has_wrong_operand x) (leaves_open s h) (is_second s h ws) (names_no_function x) (names_no_label x) (lacks_main o s) (is_too_many s h)

  pub gives_no_end : is_misplaced s.inside h ≡ false → has_wrong_operand x ≡ false → leaves_open s h ≡ true → ◌≡◌ {A = Option Cause} (Some NoEnd) (line_cause o s h ws x)
  gives_no_end = by_no_end (is_misplaced s.inside h) (has_wrong_operand x) (leaves_open s h) (is_second s h ws) (names_no_function x) (names_no_label x) (lacks_main o s) (is_too_many s h)

  pub gives_two_names : is_misplaced s.inside h ≡ false → has_wrong_operand x ≡ false → leaves_open s h ≡ false → is_second s h ws ≡ true → ◌≡◌ {A = Option Cause} (Some TwoNames) (line_cause o s h ws x)
  gives_two_names = by_two_names (is_misplaced s.inside h) (has_wrong_operand x) (leaves_open s h) (is_second s h ws) (names_no_function x) (names_no_label x) (lacks_main o s) (is_too_many s h)

  pub gives_no_name : is_misplaced s.inside h ≡ false → has_wrong_operand x ≡ false → leaves_open s h ≡ false → is_second s h ws ≡ false → names_no_function x ≡ true → ◌≡◌ {A = Option Cause} (Some NoName) (line_cause o s h ws x)
  gives_no_name = by_no_name (is_misplaced s.inside h) (has_wrong_operand x) (leaves_open s h) (is_second s h ws) (names_no_function x) (names_no_label x) (lacks_main o s) (is_too_many s h)

  pub gives_no_label : is_misplaced s.inside h ≡ false → has_wrong_operand x ≡ false → leaves_open s h ≡ false → is_second s h ws ≡ false → names_no_function x ≡ false → names_no_label x ≡ true → ◌≡◌ {A = Option Cause} (Some NoLabel) (line_cause o s h ws x)
  gives_no_label = by_no_label (is_misplaced s.inside h) (has_wrong_operand x) (leaves_open s h) (is_second s h ws) (names_no_function x) (names_no_label x) (lacks_main o s) (is_too_many s h)

  pub gives_no_main : is_misplaced s.inside h ≡ false → has_wrong_operand x ≡ false → leaves_open s h ≡ false → is_second s h ws ≡ false → names_no_function x ≡ false → names_no_label x ≡ false → lacks_main o s ≡ true → ◌≡◌ {A = Option Cause} (Some NoMain) (line_cause o s h ws x)
  gives_no_main = by_no_main (is_misplaced s.inside h) (has_wrong_operand x) (leaves_open s h) (is_second s h ws) (names_no_function x) (names_no_label x) (lacks_main o s) (is_too_many s h)

  pub gives_too_many : is_misplaced s.inside h ≡ false → has_wrong_operand x ≡ false → leaves_open s h ≡ false → is_second s h ws ≡ false → names_no_function x ≡ false → names_no_label x ≡ false → lacks_main o s ≡ false → is_too_many s h ≡ true → ◌≡◌ {A = Option Cause} (Some TooMany) (line_cause o s h ws x)
  gives_too_many = by_too_many (is_misplaced s.inside h) (has_wrong_operand x) (leaves_open s h) (is_second s h ws) (names_no_function x) (names_no_label x) (lacks_main o s) (is_too_many s h)

  pub gives_none : is_misplaced s.inside h ≡ false → has_wrong_operand x ≡ false → leaves_open s h ≡ false → is_second s h ws ≡ false → names_no_function x ≡ false → names_no_label x ≡ false → lacks_main o s ≡ false → is_too_many s h ≡ false → ◌≡◌ {A = Option Cause} None (line_cause o s h ws x)
  gives_none = by_none (is_misplaced s.inside h) (has_wrong_operand x) (leaves_open s h) (is_second s h ws) (names_no_function x) (names_no_label x) (lacks_main o s) (is_too_many s h)

-- a line without a fault passes every test

none_is : (x : Cause) → ◌≡◌ {A = Option Cause} (Some x) None → ⊥
none_is x e = cc

passed : (b : Bool) (x : Cause) (rest : Option Cause) → cond b (Some x) rest ≡ None → (b ≡ false) × (rest ≡ None)
passed true x rest e = absurd (none_is x e)
passed false x rest e = (refl, e)

pub record IsFaultless (o : Outline) (s : LineContext) (h : Head) (ws : List (List ℕ)) (x : Sense) : Type 0 where
  pub known : is_misplaced s.inside h ≡ false
  pub operand : has_wrong_operand x ≡ false
  pub no_end : leaves_open s h ≡ false
  pub two_names : is_second s h ws ≡ false
  pub no_name : names_no_function x ≡ false
  pub no_label : names_no_label x ≡ false
  pub no_main : lacks_main o s ≡ false
  pub too_many : is_too_many s h ≡ false

pub faultless : (o : Outline) (s : LineContext) (h : Head) (ws : List (List ℕ)) (x : Sense) → line_cause o s h ws x ≡ None → IsFaultless o s h ws x
faultless o s h ws x e =
    let e0 = passed (is_misplaced s.inside h) Word (cond (has_wrong_operand x) (Some Operand) (cond (leaves_open s h) (Some NoEnd) (cond (is_second s h ws) (Some TwoNames) (cond (names_no_function x) (Some NoName) (cond (names_no_label x) (Some NoLabel) (cond (lacks_main o s) (Some NoMain) (cond (is_too_many s h) (Some TooMany) None))))))) e in
    let e1 = passed (has_wrong_operand x) Operand (cond (leaves_open s h) (Some NoEnd) (cond (is_second s h ws) (Some TwoNames) (cond (names_no_function x) (Some NoName) (cond (names_no_label x) (Some NoLabel) (cond (lacks_main o s) (Some NoMain) (cond (is_too_many s h) (Some TooMany) None)))))) e0.1 in
    let e2 = passed (leaves_open s h) NoEnd (cond (is_second s h ws) (Some TwoNames) (cond (names_no_function x) (Some NoName) (cond (names_no_label x) (Some NoLabel) (cond (lacks_main o s) (Some NoMain) (cond (is_too_many s h) (Some TooMany) None))))) e1.1 in
    let e3 = passed (is_second s h ws) TwoNames (cond (names_no_function x) (Some NoName) (cond (names_no_label x) (Some NoLabel) (cond (lacks_main o s) (Some NoMain) (cond (is_too_many s h) (Some TooMany) None)))) e2.1 in
    let e4 = passed (names_no_function x) NoName (cond (names_no_label x) (Some NoLabel) (cond (lacks_main o s) (Some NoMain) (cond (is_too_many s h) (Some TooMany) None))) e3.1 in
    let e5 = passed (names_no_label x) NoLabel (cond (lacks_main o s) (Some NoMain) (cond (is_too_many s h) (Some TooMany) None)) e4.1 in
    let e6 = passed (lacks_main o s) NoMain (cond (is_too_many s h) (Some TooMany) None) e5.1 in
    let e7 = passed (is_too_many s h) TooMany None e6.1 in
    record { known = e0.0; operand = e1.0; no_end = e2.0; two_names = e3.0; no_name = e4.0; no_label = e5.0; no_main = e6.0; too_many = e7.0 }

pub gives_not_utf8 : (o : Outline) (s : LineContext) (line : List ℕ) → is_utf8 line ≡ false → ◌≡◌ {A = Option Cause} (Some NotUtf8) (fault_on o s line)
gives_not_utf8 o s line e = ap (λ b. cond b (line_cause o s (head_of_line line) (operands_of_line line) (sense_of o s.labels (head_of_line line) (operands_of_line line))) (Some NotUtf8)) (sym e)

pub gives_fault : (o : Outline) (s : LineContext) (line : List ℕ) (r : Option Cause) (h : Head) (ws : List (List ℕ)) (x : Sense) → is_utf8 line ≡ true → h ≡ head_of_line line → ws ≡ operands_of_line line → x ≡ sense_of o s.labels h ws → r ≡ line_cause o s h ws x → r ≡ fault_on o s line
gives_fault o s line r h ws x e eh ews ex er =
    let e1 : line_cause o s h ws x ≡ line_cause o s h ws (sense_of o s.labels h ws) = ap (λ y. line_cause o s h ws y) ex in
    let e2 : line_cause o s h ws (sense_of o s.labels h ws) ≡ line_cause o s (head_of_line line) ws (sense_of o s.labels (head_of_line line) ws) = ap (λ y. line_cause o s y ws (sense_of o s.labels y ws)) eh in
    let e3 : line_cause o s (head_of_line line) ws (sense_of o s.labels (head_of_line line) ws) ≡ line_cause o s (head_of_line line) (operands_of_line line) (sense_of o s.labels (head_of_line line) (operands_of_line line)) = ap (λ y. line_cause o s (head_of_line line) y (sense_of o s.labels (head_of_line line) y)) ews in
    er ∙ e1 ∙ e2 ∙ e3 ∙ ap (λ b. cond b (line_cause o s (head_of_line line) (operands_of_line line) (sense_of o s.labels (head_of_line line) (operands_of_line line))) (Some NotUtf8)) (sym e)
