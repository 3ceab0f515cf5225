-- Reading a text, line by line.
use Rattle.program_reader.proofs.Common.{◌≡◌, ◌<◌, ◌≤◌, ◌+◌, ◌++◌, ◌^◌, ℕ, suc, Bool, true, false, cond, List, [], ◌∷◌, length, arith, refl, ap, sym, subst, ◌∙◌, Option, Some, None, ◌&&◌, ◌||◌, not, codes, is_utf8, append-nil, All-nil, both_ways, IsFunction, is_last, lines_of, Cause, NotUtf8, TextFault, Head, Blank, Begin, End, Label, Order, Unknown, Sense, Does, is_noted, Outline, Labels, Reader, sense_of, only_name, sense_of_name, begun_name, head_of_line, operands_of_line, is_open_after, outline_of, outline_onto, outline_above, outline_line, no_labels, labels_above, labels_onto, ends_body, label_line, is_misplaced, is_begin, line_cause, fault_on, first_fault_from, first_fault, or_later_fault, has_wrong_operand, code_from, functions_from, spot_in, after_line, after_begin, after_order, line_taken, nothing_read}
use Rattle.program_reader.proofs.Causes.{IsFaultless, faultless}
use Rattle.program_reader.proofs.LabelSteps.{goes_on}
use Rattle.program_reader.proofs.Ranges.{all_functions, order_in, AreInside, onto_inside, above_inside}
use Rattle.program_reader.proofs.Spots.{Follows, same_fault}
use Rattle.program_reader.proofs.Steps.{Told, wrong_none, After, after, made, made_more}
use Rattle.program_reader.proofs.Sounds.{Sound, SoundAt, sound_more}

utf8_by : (b : Bool) (x : Option Cause) → cond b x (Some NotUtf8) ≡ None → x ≡ None
utf8_by true x e = e
utf8_by false x e = absurd (cc)

inside_order : (b : Bool) (v : _) → is_misplaced b (Order v) ≡ false → b ≡ true
inside_order true v e = refl
inside_order false v e = absurd (cc)

-- the lines of a function end before a line of this kind
stops : (l : List ℕ) (ls : List (List ℕ)) (s : Labels) → ends_body (head_of_line l) ≡ true → labels_onto s (l ∷ ls) ≡ s
stops l ls s e = ap (λ b. cond b s (labels_onto (label_line (head_of_line l) (operands_of_line l) s) ls)) e

module _ (o : Outline) (r : Reader) (above : List (List ℕ)) (l : List ℕ) (ls : List (List ℕ)) (n : ℕ) (last : Bool) (f : Follows o r above (l ∷ ls)) (g : SoundAt o r above) (few : length above < 2 ^ 31) (none : fault_on o (spot_in o r last) l ≡ None) where
  abbrev h : Head
  h = head_of_line l

  abbrev ws : List (List ℕ)
  ws = operands_of_line l

  abbrev x : Sense
  x = sense_of o r.labels.entries h ws

  fine : IsFaultless o (spot_in o r last) h ws x
  fine = faultless o (spot_in o r last) h ws x (utf8_by (is_utf8 l) (line_cause o (spot_in o r last) h ws x) none)

  told : (k : Head) (vs : List (List ℕ)) → is_misplaced r.inside k ≡ false → Told o r.labels k vs (sense_of o r.labels.entries k vs)
  told Blank vs e = refl
  told Begin vs e = refl
  told End vs e = refl
  told Label vs e = refl
  told Unknown vs e = refl
  told (Order v) vs e =
      let p = f.opened (inside_order r.inside v e) in
      let inside : AreInside r.labels = subst AreInside (sym p.labels) (onto_inside (labels_above above) (l ∷ ls) (above_inside above)) in
      order_in o r.labels.entries r.labels.next inside v vs

  step : After (after_line r h ws x n ls) above h ws (begun_name h ws) ls
  step = after o r above l ls n last f ws x h (λ e. sym (goes_on (labels_above above) l ls e)) (told h ws fine.known) fine

  pub next_follows : Follows o (line_taken o r n l ls) (l ∷ above) ls
  next_follows = record {
    inside = step.inside;
    begun = step.begun;
    named = step.named;
    whole = ap (λ k. outline_onto k (outline_line (length above + 1) (outline_above above) l) ls) (let e : suc (length above) + 1 ≡ length above + 1 + 1 = omega arith in e) ∙ f.whole;
    orders = step.orders;
    opened = λ t. let p = step.opened t in record { labels = p.0; labeled = p.1 };
  }

  pub next_sound : SoundAt o (line_taken o r n l ls) (l ∷ above)
  next_sound = subst (λ k. Sound o (line_taken o r n l ls) (outline_above (l ∷ above)).functions (labels_above (l ∷ above)).next k) (let e : length above + 1 ≡ suc (length above) = omega arith in e) (sound_more o r above l ls n last f g few ws x h (stops l ls (labels_above above)) (told h ws fine.known) fine)

  begin_kept : (name : Option (List ℕ)) (y : Sense) → y ≡ sense_of_name name → has_wrong_operand y ≡ false → code_from o (labels_onto no_labels ls).entries (n + 1) ls ≡ code_from o (after_begin r name ls).labels.entries (n + 1) ls
  begin_kept None y e w = absurd (wrong_none y e w)
  begin_kept (Some name) y e w = refl

  order_kept : (y : Sense) → code_from o r.labels.entries (n + 1) ls ≡ code_from o (after_order r y n).labels.entries (n + 1) ls
  order_kept (Does i) = refl
  order_kept _ = refl

  code_kept : (k : Head) (vs : List (List ℕ)) (y : Sense) → Told o r.labels k vs y → has_wrong_operand y ≡ false → cond (is_begin k) (code_from o (labels_onto no_labels ls).entries (n + 1) ls) (code_from o r.labels.entries (n + 1) ls) ≡ code_from o (after_line r k vs y n ls).labels.entries (n + 1) ls
  code_kept Begin vs y t w = begin_kept (only_name vs) y t w
  code_kept (Order v) vs y t w = order_kept y
  code_kept Blank vs y t w = refl
  code_kept End vs y t w = refl
  code_kept Label vs y t w = refl
  code_kept Unknown vs y t w = refl

  pub next_made : made (line_taken o r n l ls) (code_from o (line_taken o r n l ls).labels.entries (n + 1) ls) (functions_from o (n + 1) ls) ≡ made r (code_from o r.labels.entries n (l ∷ ls)) (functions_from o n (l ∷ ls))
  next_made = sym (
      made_more o r ls n last ws x (code_from o (labels_onto no_labels ls).entries (n + 1) ls) (code_from o r.labels.entries (n + 1) ls) (functions_from o (n + 1) ls) h (told h ws fine.known) fine
      ∙ ap (λ c. made (line_taken o r n l ls) c (functions_from o (n + 1) ls)) (code_kept h ws x (told h ws fine.known) fine.operand))

  pub next_fault : last ≡ is_last ls → first_fault_from o (l ∷ above) ls ≡ first_fault_from o above (l ∷ ls)
  next_fault e = ap (λ c. or_later_fault c (length above + 1) (first_fault_from o (l ∷ above) ls)) (sym (sym (same_fault o r above ls l last f e) ∙ none))

  closed_by : (b c : Bool) → (b || (true && c)) ≡ false → c ≡ false
  closed_by true c e = absurd (cc)
  closed_by false c e = e

  -- no function stays open after the last line, and main is there
  pub at_last : last ≡ true → (line_taken o r n l ls).inside ≡ false
  at_last e = step.inside ∙ ap (is_open_after h) (sym f.inside) ∙ closed_by (r.inside && is_begin h) (is_open_after h r.inside) (ap (λ b. (r.inside && is_begin h) || (b && is_open_after h r.inside)) (sym e) ∙ fine.no_end)

  main_by : (b : Bool) → (true && not b) ≡ false → b ≡ true
  main_by true e = refl
  main_by false e = absurd (cc)

  pub has_main : last ≡ true → is_noted o.functions (codes "main") ≡ true
  has_main e = main_by (is_noted o.functions (codes "main")) (ap (λ b. b && not (is_noted o.functions (codes "main"))) (sym e) ∙ fine.no_main)

-- the reader has read some lines of the text without a fault; these follow
pub record IsReading (o : Outline) (text : List ℕ) (r : Reader) (number : ℕ) (rest : List (List ℕ)) : Type 0 where
  pub above : List (List ℕ)
  pub counted : number ≡ length above + 1
  pub follows : Follows o r above rest
  pub sound : SoundAt o r above
  pub fault : first_fault_from o above rest ≡ first_fault text
  pub functions : made r (code_from o r.labels.entries number rest) (functions_from o number rest) ≡ functions_from o 1 (lines_of text)

pub at_first : (text : List ℕ) (o : Outline) → o ≡ outline_of text → IsReading o text nothing_read 1 (lines_of text)
at_first text o e = record {
  above = [];
  counted = refl;
  follows = record { inside = refl; begun = refl; named = refl; whole = sym e; orders = refl; opened = λ t. absurd (both_ways false refl t) };
  sound = record { names = refl; done = All-nil (IsFunction (all_functions o)); code = λ t. absurd (both_ways false refl t); placed = λ t. absurd (both_ways false refl t); short = omega arith; begun = omega arith; labeled = omega arith; orders = omega arith };
  fault = ap (λ p. first_fault_from p [] (lines_of text)) e;
  functions = refl;
}

-- one more line
pub next_line : (o : Outline) (text : List ℕ) (r s : Reader) (n : ℕ) (l : List ℕ) (ls : List (List ℕ)) (last : Bool) → IsReading o text r n (l ∷ ls) → n ≤ 16777217 → last ≡ is_last ls → fault_on o (spot_in o r last) l ≡ None → s ≡ line_taken o r n l ls → IsReading o text s (n + 1) ls
next_line o text r s n l ls last h le e none same =
    let few : length h.above < 2 ^ 31 = omega (arith, h.counted, le) in
    let next : IsReading o text (line_taken o r n l ls) (n + 1) ls = record {
      above = l ∷ h.above;
      counted = omega (arith, h.counted);
      follows = next_follows o r h.above l ls n last h.follows h.sound few none;
      sound = next_sound o r h.above l ls n last h.follows h.sound few none;
      fault = next_fault o r h.above l ls n last h.follows h.sound few none e ∙ h.fault;
      functions = next_made o r h.above l ls n last h.follows h.sound few none ∙ h.functions;
    } in
    subst (λ t. IsReading o text t (n + 1) ls) (sym same) next

-- the line with the first fault
pub refused_at : (o : Outline) (text : List ℕ) (r : Reader) (n : ℕ) (l : List ℕ) (ls : List (List ℕ)) (last : Bool) (cause : Cause) → IsReading o text r n (l ∷ ls) → last ≡ is_last ls → fault_on o (spot_in o r last) l ≡ Some cause → first_fault text ≡ Some (record { line = n; cause = cause })
refused_at o text r n l ls last cause h e some =
    sym h.fault
    ∙ ap (λ c. or_later_fault c (length h.above + 1) (first_fault_from o (l ∷ h.above) ls)) (sym (same_fault o r h.above ls l last h.follows e) ∙ some)
    ∙ ap (λ k. let x : TextFault = record { line = k; cause = cause } in Some x) (sym h.counted)

-- the last line
pub no_fault : (o : Outline) (text : List ℕ) (r : Reader) (n : ℕ) → IsReading o text r n [] → first_fault text ≡ None
no_fault o text r n h = sym h.fault

pub functions_done : (o : Outline) (text : List ℕ) (r : Reader) (n : ℕ) → IsReading o text r n [] → r.inside ≡ false → r.done ≡ functions_from o 1 (lines_of text)
functions_done o text r n h i = sym (ap (λ b. cond b (r.done ++ record { name = r.name; code = r.code ++ [] } ∷ []) (r.done ++ [])) i ∙ append-nil r.done) ∙ h.functions
