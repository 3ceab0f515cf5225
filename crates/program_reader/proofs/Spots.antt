-- The reader's state agrees with its line's.
use Rattle.program_reader.proofs.Common.{◌≡◌, ◌+◌, ℕ, Bool, true, false, cond, List, [], ◌∷◌, length, take, refl, ap, sym, ◌∙◌, Some, is_utf8, is_last, NotUtf8, Word, Head, Blank, Begin, End, Label, Order, Unknown, Sense, Outline, Reader, sense_of, only_name, sense_of_name, alone, head_of_line, operands_of_line, is_inside, outline_above, outline_onto, labels_above, labels_onto, begun_above, orders_above, LineContext, spot_of, is_misplaced, line_cause, fault_on, spot_in}
use Rattle.program_reader.proofs.Causes.{gives_word}
use Rattle.program_reader.proofs.Prefixes.{functions_on, labels_on, first_are}

-- the labels of the open function, and how many of them were passed
pub record IsOpen (r : Reader) (above rest : List (List ℕ)) : Type 0 where
  pub labels : r.labels ≡ labels_onto (labels_above above) rest
  pub labeled : length (labels_above above).entries ≡ r.labeled

-- the reader has read the lines above, and the rest follows
pub record Follows (o : Outline) (r : Reader) (above rest : List (List ℕ)) : Type 0 where
  pub inside : r.inside ≡ is_inside above
  pub begun : r.begun ≡ begun_above above
  pub named : length (outline_above above).functions ≡ r.begun
  pub whole : outline_onto (length above + 1) (outline_above above) rest ≡ o
  pub orders : r.orders ≡ orders_above above
  pub opened : r.inside ≡ true → IsOpen r above rest

pub first_named : (o : Outline) (r : Reader) (above rest : List (List ℕ)) → Follows o r above rest → take r.begun o.functions ≡ (outline_above above).functions
first_named o r above rest f = ap (λ p. take r.begun p.functions) (sym f.whole) ∙ first_are (outline_above above).functions (outline_onto (length above + 1) (outline_above above) rest).functions r.begun (functions_on (length above + 1) (outline_above above) rest) f.named

pub first_labeled : (r : Reader) (above rest : List (List ℕ)) → IsOpen r above rest → take r.labeled r.labels.entries ≡ (labels_above above).entries
first_labeled r above rest f = ap (λ l. take r.labeled l.entries) f.labels ∙ first_are (labels_above above).entries (labels_onto (labels_above above) rest).entries r.labeled (labels_on (labels_above above) rest) f.labeled

-- OUTSIDE A FUNCTION LABELS DO NOT MATTER

inside_false : (h : Head) (o : Outline) (s : LineContext) (ws : List (List ℕ)) (x : Sense) → is_misplaced s.inside h ≡ true → line_cause o s h ws x ≡ Some Word
inside_false h o s ws x e = sym (gives_word o s h ws x e)

module _ (o : Outline) (s t : LineContext) (ws : List (List ℕ)) (i : s.inside ≡ false) (k : t.inside ≡ false) (l : s.last ≡ t.last) (n : s.named ≡ t.named) (b : s.begun ≡ t.begun) (d : s.orders ≡ t.orders) where
  pub outside : (h : Head) → line_cause o s h ws (sense_of o s.labels h ws) ≡ line_cause o t h ws (sense_of o t.labels h ws)
  outside Blank = λ j. line_cause o (record { inside = (i ∙ sym k) j; last = l j; named = n j; begun = b j; orders = d j; labeled = []; labels = [] }) Blank ws (alone ws)
  outside Begin = λ j. line_cause o (record { inside = (i ∙ sym k) j; last = l j; named = n j; begun = b j; orders = d j; labeled = []; labels = [] }) Begin ws (sense_of_name (only_name ws))
  outside End = inside_false End o s ws (sense_of o s.labels End ws) (ap (λ v. is_misplaced v End) i) ∙ sym (inside_false End o t ws (sense_of o t.labels End ws) (ap (λ v. is_misplaced v End) k))
  outside Label = inside_false Label o s ws (sense_of o s.labels Label ws) (ap (λ v. is_misplaced v Label) i) ∙ sym (inside_false Label o t ws (sense_of o t.labels Label ws) (ap (λ v. is_misplaced v Label) k))
  outside (Order v) = inside_false (Order v) o s ws (sense_of o s.labels (Order v) ws) (ap (λ u. is_misplaced u (Order v)) i) ∙ sym (inside_false (Order v) o t ws (sense_of o t.labels (Order v) ws) (ap (λ u. is_misplaced u (Order v)) k))
  outside Unknown = inside_false Unknown o s ws (sense_of o s.labels Unknown ws) (ap (λ v. is_misplaced v Unknown) i) ∙ sym (inside_false Unknown o t ws (sense_of o t.labels Unknown ws) (ap (λ v. is_misplaced v Unknown) k))

-- THE SAME FAULT

same_spot : (o : Outline) (r : Reader) (above ls : List (List ℕ)) (l : List ℕ) (last : Bool) → Follows o r above (l ∷ ls) → last ≡ is_last ls → r.inside ≡ true → spot_in o r last ≡ spot_of above l ls
same_spot o r above ls l last f e i =
    let p = f.opened i in
    let a = first_named o r above (l ∷ ls) f in
    let b = first_labeled r above (l ∷ ls) p in
    λ j. record { inside = f.inside j; last = e j; named = a j; begun = f.begun j; orders = f.orders j; labeled = b j; labels = (p.labels j).entries }

by_inside : (o : Outline) (r : Reader) (above ls : List (List ℕ)) (l : List ℕ) (last : Bool) → Follows o r above (l ∷ ls) → last ≡ is_last ls → (b : Bool) → r.inside ≡ b → fault_on o (spot_in o r last) l ≡ fault_on o (spot_of above l ls) l
by_inside o r above ls l last f e true i = ap (λ s. fault_on o s l) (same_spot o r above ls l last f e i)
by_inside o r above ls l last f e false i = ap (λ x. cond (is_utf8 l) x (Some NotUtf8)) (outside o (spot_in o r last) (spot_of above l ls) (operands_of_line l) i (sym f.inside ∙ i) e (first_named o r above (l ∷ ls) f) f.begun f.orders (head_of_line l))

pub same_fault : (o : Outline) (r : Reader) (above ls : List (List ℕ)) (l : List ℕ) (last : Bool) → Follows o r above (l ∷ ls) → last ≡ is_last ls → fault_on o (spot_in o r last) l ≡ fault_on o (spot_of above l ls) l
same_fault o r above ls l last f e = by_inside o r above ls l last f e r.inside refl
