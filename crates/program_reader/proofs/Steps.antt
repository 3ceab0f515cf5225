-- One more line without a fault.
use Rattle.program_reader.proofs.Common.{◌≡◌, ◌+◌, ◌++◌, ℕ, Bool, true, false, cond, List, [], ◌∷◌, length, take, arith, refl, ap, sym, ◌∙◌, append_assoc, Option, Some, None, ◌&&◌, ◌||◌, both_ways, length_push, Instr, Ret, Line, Fun, Head, Blank, Begin, End, Label, Order, Unknown, Sense, Fits, Does, WrongOperand, NoSuchFunction, NoSuchLabel, Outline, Labels, Reader, NotedName, is_noted, with_name, only_name, sense_of_name, alone, is_inside, is_open_after, noted_if, begun_name, outline_above, label_line, labels_after, labels_above, labels_onto, ends_body, begins, begun_above, orders, orders_above, is_misplaced, has_wrong_operand, is_begin, is_named_in, names_no_function, names_no_label, line_of, code_by, with_function, spot_in, after_begin, after_end, after_order, after_line}
use Rattle.program_reader.proofs.Causes.{IsFaultless}
use Rattle.program_reader.proofs.Ranges.{all_functions, IsInRange}
use Rattle.program_reader.proofs.Spots.{IsOpen, Follows, first_named, first_labeled}

-- ---- small facts

pub wrong_none : (x : Sense) → x ≡ sense_of_name None → has_wrong_operand x ≡ false → ⊥
wrong_none x e f = both_ways (has_wrong_operand x) f (ap has_wrong_operand e)

fits_named : (x : Sense) (name : Option (List ℕ)) → x ≡ sense_of_name name → has_wrong_operand x ≡ false → x ≡ Fits
fits_named x None e f = absurd (wrong_none x e f)
fits_named x (Some name) e f = e

fits_alone : (x : Sense) (ws : List (List ℕ)) → x ≡ alone ws → has_wrong_operand x ≡ false → x ≡ Fits
fits_alone x [] e f = e
fits_alone x (w ∷ ws) e f = absurd (both_ways (has_wrong_operand x) f (ap has_wrong_operand e))

pub outside_begin : (b : Bool) (c : Bool) → ((b && true) || c) ≡ false → b ≡ false
outside_begin true c e = absurd (cc)
outside_begin false c e = refl

pub inside_end : (b : Bool) → is_misplaced b End ≡ false → b ≡ true
inside_end true e = refl
inside_end false e = absurd (cc)

pub unknown_never : (b : Bool) → is_misplaced b Unknown ≡ false → ⊥
unknown_never true e = cc
unknown_never false e = cc

-- a new name is noted after the others
pub new_name : (es : List NotedName) (name : List ℕ) (n : ℕ) → is_noted es name ≡ false → with_name es name n ≡ es ++ record { name = name; number = n } ∷ []
new_name es name n e = ap (λ b. cond b es (es ++ record { name = name; number = n } ∷ [])) e

-- what a line of this kind says, as far as it matters
abbrev pub Told : Outline → Labels → Head → List (List ℕ) → Sense → Type 0
Told o labels (Order v) ws x = IsInRange (all_functions o) (labels.next + 1) x
Told o labels Begin ws x = x ≡ sense_of_name (only_name ws)
Told o labels Label ws x = x ≡ sense_of_name (only_name ws)
Told o labels _ ws x = x ≡ alone ws

-- ---- what the lines say, with one more

pub record After (r : Reader) (above : List (List ℕ)) (h : Head) (ws : List (List ℕ)) (name : Option (List ℕ)) (ls : List (List ℕ)) : Type 0 where
  pub inside : r.inside ≡ is_open_after h (is_inside above)
  pub begun : r.begun ≡ begun_above above + begins h
  pub named : length (noted_if (outline_above above).functions name (length above + 1)) ≡ r.begun
  pub orders : r.orders ≡ orders_above above + orders h
  pub opened : r.inside ≡ true → (r.labels ≡ labels_onto (labels_after h ws (labels_above above)) ls) × (length (labels_after h ws (labels_above above)).entries ≡ r.labeled)

module _ (o : Outline) (r : Reader) (above : List (List ℕ)) (l : List ℕ) (ls : List (List ℕ)) (n : ℕ) (last : Bool) (f : Follows o r above (l ∷ ls)) (ws : List (List ℕ)) (x : Sense) where
  begin_after : (name : Option (List ℕ)) → x ≡ sense_of_name name → has_wrong_operand x ≡ false → is_named_in (take r.begun o.functions) name ≡ false → After (after_begin r name ls) above Begin ws name ls
  begin_after None e w a = absurd (wrong_none x e w)
  begin_after (Some name) e w a =
      let fresh : is_noted (outline_above above).functions name ≡ false = ap (λ es. is_noted es name) (sym (first_named o r above (l ∷ ls) f)) ∙ a in
      let e1 = new_name (outline_above above).functions name (length above + 1) fresh in
      record {
        inside = refl;
        begun = ap (λ k. k + 1) f.begun;
        named = ap length e1 ∙ length_push (outline_above above).functions (record { name = name; number = length above + 1 }) ∙ ap (λ k. k + 1) f.named;
        orders = omega (arith, f.orders);
        opened = λ t. (refl, refl);
      }

  end_after : After (after_end r n) above End ws None ls
  end_after = record {
    inside = refl;
    begun = omega (arith, f.begun);
    named = f.named;
    orders = omega (arith, f.orders);
    opened = λ t. absurd (both_ways false refl t);
  }

  label_labeled : (p : IsOpen r above (l ∷ ls)) (name : Option (List ℕ)) → x ≡ sense_of_name name → has_wrong_operand x ≡ false → is_named_in (take r.labeled r.labels.entries) name ≡ false → length (noted_if (labels_above above).entries name (labels_above above).next) ≡ r.labeled + 1
  label_labeled p None e w a = absurd (wrong_none x e w)
  label_labeled p (Some name) e w a =
      let fresh : is_noted (labels_above above).entries name ≡ false = ap (λ es. is_noted es name) (sym (first_labeled r above (l ∷ ls) p)) ∙ a in
      ap length (new_name (labels_above above).entries name (labels_above above).next fresh) ∙ length_push (labels_above above).entries (record { name = name; number = (labels_above above).next }) ∙ ap (λ k. k + 1) p.labeled

  label_after : (ends_body Label ≡ false → labels_onto (labels_above above) (l ∷ ls) ≡ labels_onto (label_line Label ws (labels_above above)) ls) → x ≡ sense_of_name (only_name ws) → has_wrong_operand x ≡ false → is_named_in (take r.labeled r.labels.entries) (only_name ws) ≡ false → After (record r { labeled = r.labeled + 1 }) above Label ws None ls
  label_after on e w a = record {
    inside = f.inside;
    begun = omega (arith, f.begun);
    named = f.named;
    orders = omega (arith, f.orders);
    opened = λ t. let p = f.opened t in (p.labels ∙ on refl, label_labeled p (only_name ws) e w a);
  }

  abbrev On : Head → Type 0
  On h = ends_body h ≡ false → labels_onto (labels_above above) (l ∷ ls) ≡ labels_onto (label_line h ws (labels_above above)) ls

  order_does : (v : _) (i : Instr) → On (Order v) → After (after_order r (Does i) n) above (Order v) ws None ls
  order_does v i on = record {
    inside = f.inside;
    begun = omega (arith, f.begun);
    named = f.named;
    orders = ap (λ k. k + 1) f.orders;
    opened = λ t. let p = f.opened t in (p.labels ∙ on refl, p.labeled);
  }

  order_after : (v : _) (y : Sense) → On (Order v) → IsInRange (all_functions o) (r.labels.next + 1) y → has_wrong_operand y ≡ false → names_no_function y ≡ false → names_no_label y ≡ false → After (after_order r y n) above (Order v) ws None ls
  order_after v (Does i) on t w g j = order_does v i on
  order_after v Fits on t w g j = absurd t
  order_after v WrongOperand on t w g j = absurd (both_ways true w refl)
  order_after v NoSuchFunction on t w g j = absurd (both_ways true g refl)
  order_after v NoSuchLabel on t w g j = absurd (both_ways true j refl)

  blank_after : On Blank → After r above Blank ws None ls
  blank_after on = record {
    inside = f.inside;
    begun = omega (arith, f.begun);
    named = f.named;
    orders = omega (arith, f.orders);
    opened = λ t. let p = f.opened t in (p.labels ∙ on refl, p.labeled);
  }

  pub after : (h : Head) → On h → Told o r.labels h ws x → IsFaultless o (spot_in o r last) h ws x → After (after_line r h ws x n ls) above h ws (begun_name h ws) ls
  after Blank on t q = blank_after on
  after Begin on t q = begin_after (only_name ws) t q.operand q.two_names
  after End on t q = end_after
  after Label on t q = label_after on t q.operand q.two_names
  after (Order v) on t q = order_after v x on t q.operand q.no_name q.no_label
  after Unknown on t q = absurd (unknown_never r.inside q.known)

-- ---- the functions so far, with those that the rest makes

abbrev pub made : Reader → List Line → List Fun → List Fun
made r code rest = cond r.inside (r.done ++ record { name = r.name; code = r.code ++ code } ∷ rest) (r.done ++ rest)

module _ (o : Outline) (r : Reader) (ls : List (List ℕ)) (n : ℕ) (last : Bool) (ws : List (List ℕ)) (x : Sense) (new code : List Line) (rest : List Fun) where
  begin_made : (name : Option (List ℕ)) → r.inside ≡ false → x ≡ sense_of_name name → has_wrong_operand x ≡ false → made r [] (with_function name new rest) ≡ made (after_begin r name ls) new rest
  begin_made None i e w = absurd (wrong_none x e w)
  begin_made (Some name) i e w = ap (λ b. cond b (r.done ++ record { name = r.name; code = r.code ++ [] } ∷ record { name = name; code = new } ∷ rest) (r.done ++ record { name = name; code = new } ∷ rest)) i

  end_made : r.inside ≡ true → made r (line_of Ret n ∷ []) rest ≡ made (after_end r n) code rest
  end_made i =
      let fun : Fun = record { name = r.name; code = r.code ++ line_of Ret n ∷ [] } in
      ap (λ b. cond b (r.done ++ fun ∷ rest) (r.done ++ rest)) i ∙ sym (append_assoc r.done (fun ∷ []) rest)

  order_made : (v : _) (y : Sense) → IsInRange (all_functions o) (r.labels.next + 1) y → has_wrong_operand y ≡ false → names_no_function y ≡ false → names_no_label y ≡ false → made r (code_by (Order v) y n code) rest ≡ made (after_order r y n) code rest
  order_made v (Does i) t w g j = ap (λ c. cond r.inside (r.done ++ record { name = r.name; code = c } ∷ rest) (r.done ++ rest)) (sym (append_assoc r.code (line_of i n ∷ []) code))
  order_made v Fits t w g j = absurd t
  order_made v WrongOperand t w g j = absurd (both_ways true w refl)
  order_made v NoSuchFunction t w g j = absurd (both_ways true g refl)
  order_made v NoSuchLabel t w g j = absurd (both_ways true j refl)

  pub made_more : (h : Head) → Told o r.labels h ws x → IsFaultless o (spot_in o r last) h ws x → made r (code_by h x n code) (with_function (begun_name h ws) new rest) ≡ made (after_line r h ws x n ls) (cond (is_begin h) new code) rest
  made_more Blank t q = ap (λ y. made r (code_by Blank y n code) rest) (fits_alone x ws t q.operand)
  made_more Begin t q = begin_made (only_name ws) (outside_begin r.inside (last && true) q.no_end) t q.operand
  made_more End t q = end_made (inside_end r.inside q.known)
  made_more Label t q = ap (λ y. made r (code_by Label y n code) rest) (fits_named x (only_name ws) t q.operand)
  made_more (Order v) t q = order_made v x t q.operand q.no_name q.no_label
  made_more Unknown t q = absurd (unknown_never r.inside q.known)
