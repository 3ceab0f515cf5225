-- Instructions name existing functions and places.
use Rattle.program_reader.proofs.Common.{◌≡◌, ◌<◌, ◌≤◌, ◌+◌, ◌*◌, ℕ, Bool, true, false, cond, List, [], ◌∷◌, ◌++◌, length, arith, refl, subst, Option, Some, None, ◌&&◌, nat_le, bytes_eq, digits_value, and_parts, position-Some, Instr, NamesExist, signed_number, is_numeral, Verb, Set, Mov, Movr, Nil, Calc, Same, Jmp, Jz, Newm, Pack, Getr, Geti, Putr, Puti, Cntr, Cnti, Freeze, Cas, Call, Par, Pfor, Out, Head, Begin, Label, Order, Sense, Fits, Does, WrongOperand, Outline, Labels, NotedName, is_name, is_noted, name_index, numbered_of, int_register, ref_register, field_count, one, two, three, five, plain, plain_one, plain_two, plain_three, plain_five, at_label, jump_on_zero, calling, forking, looping, order_alone, order_one, order_two, ordered_sense, only_name, head_of_line, operands_of_line, noted_if, label_line, labels_after, labels_above, labels_onto, ends_body}
use Rattle.hh_lang.specs.declared.instr.Instr.TheVariants as does
use Rattle.program_reader.specs.declared.head.Verb.TheVariants.{Ret}

-- the number of all functions, those of loops included
abbrev pub all_functions : Outline → ℕ
all_functions o = length o.functions + 3 * length o.loops

-- an instruction, and what it names exists
abbrev pub IsInRange : ℕ → ℕ → Sense → Type 0
IsInRange f p (Does i) = NamesExist f p i
IsInRange f p Fits = ⊥
IsInRange f p _ = Unit {0}

-- all numbers are at most this
abbrev pub AreAtMost : ℕ → List NotedName → Type 0
AreAtMost b [] = Unit {0}
AreAtMost b (e ∷ es) = (e.number ≤ b) × AreAtMost b es

some_is : (x y : ℕ) → ◌≡◌ {A = Option ℕ} (Some x) (Some y) → x ≡ y
some_is x y e = cc

at_most_by : (b p n : ℕ) (rest : Option ℕ) (t : Bool) → n ≤ b → (rest ≡ Some p → p ≤ b) → cond t (Some n) rest ≡ Some p → p ≤ b
at_most_by b p n rest true le h e = let k = some_is n p e in omega (arith, k, le)
at_most_by b p n rest false le h e = h e

numbered_at_most : (b : ℕ) (es : List NotedName) (name : List ℕ) (p : ℕ) → AreAtMost b es → numbered_of es name ≡ Some p → p ≤ b
numbered_at_most b [] name p h e = absurd (cc)
numbered_at_most b (e ∷ es) name p h eq = at_most_by b p e.number (numbered_of es name) (bytes_eq name e.name) h.0 (numbered_at_most b es name p h.1) eq

pub place_below : (es : List NotedName) (name : List ℕ) (k : ℕ) → name_index es name ≡ Some k → k < length es
place_below es name k e = (position-Some (λ x. bytes_eq name x.name) es k (record { name = []; number = 0 }) e).0

either : (f p : ℕ) (b : Bool) (s t : Sense) → IsInRange f p s → IsInRange f p t → IsInRange f p (cond b s t)
either f p true s t h k = h
either f p false s t h k = k

module _ (o : Outline) (labels : List NotedName) (p : ℕ) (b : AreAtMost p labels) where
  abbrev In : Sense → Type 0
  In x = IsInRange (all_functions o) (p + 1) x

  to_label : (r : Option ℕ) (name : List ℕ) → numbered_of labels name ≡ r → In (at_label r (λ q. does.Jmp q))
  to_label None name e = tt
  to_label (Some q) name e = let le = numbered_at_most p labels name q b e in omega (arith, le)

  to_label_on_zero : (a : ℕ) (r : Option ℕ) (name : List ℕ) → numbered_of labels name ≡ r → In (at_label r (λ q. does.Jz a q))
  to_label_on_zero a None name e = tt
  to_label_on_zero a (Some q) name e = let le = numbered_at_most p labels name q b e in omega (arith, le)

  -- instructions that name nothing

  one_in : (r : Option ℕ) (f : ℕ → Instr) → ((a : ℕ) → NamesExist (all_functions o) (p + 1) (f a)) → In (plain (one r f))
  one_in None f h = tt
  one_in (Some a) f h = h a

  two_in : {A : Type 0} (r : Option ℕ) (s : Option A) (f : ℕ → A → Instr) → ((a : ℕ) (c : A) → NamesExist (all_functions o) (p + 1) (f a c)) → In (plain (two r s f))
  two_in None s f h = tt
  two_in (Some a) None f h = tt
  two_in (Some a) (Some c) f h = h a c

  three_in : (r s t : Option ℕ) (f : ℕ → ℕ → ℕ → Instr) → ((a c d : ℕ) → NamesExist (all_functions o) (p + 1) (f a c d)) → In (plain (three r s t f))
  three_in None s t f h = tt
  three_in (Some a) None t f h = tt
  three_in (Some a) (Some c) None f h = tt
  three_in (Some a) (Some c) (Some d) f h = h a c d

  five_in : (r s t u v : Option ℕ) → In (plain (five r s t u v))
  five_in None s t u v = tt
  five_in (Some a) None t u v = tt
  five_in (Some a) (Some c) None u v = tt
  five_in (Some a) (Some c) (Some d) None v = tt
  five_in (Some a) (Some c) (Some d) (Some e) None = tt
  five_in (Some a) (Some c) (Some d) (Some e) (Some g) = tt

  -- a count of fields is at most 16
  count_by : (b : Bool) (k n : ℕ) → (b ≡ true → k ≤ 16) → cond b (Some k) None ≡ Some n → n ≤ 16
  count_by true k n h e = let same : k ≡ n = cc in subst (λ (m : ℕ). m ≤ 16) same (h refl)
  count_by false k n h e = absurd cc

  count_within : (w : List ℕ) (n : ℕ) → field_count w ≡ Some n → n ≤ 16
  count_within w n e = count_by (is_numeral w && nat_le (digits_value 10 w) 16) (digits_value 10 w) n (λ both. let le = (and_parts (is_numeral w) (nat_le (digits_value 10 w) 16) both).1 in grind (arith, le)) e

  pack_in : (r s t : Option ℕ) → ((n : ℕ) → s ≡ Some n → n ≤ 16) → ((n : ℕ) → t ≡ Some n → n ≤ 16) → In (plain (three r s t (λ d x y. does.Pack d x y)))
  pack_in None s t hs ht = tt
  pack_in (Some a) None t hs ht = tt
  pack_in (Some a) (Some c) None hs ht = tt
  pack_in (Some a) (Some c) (Some d) hs ht = (hs c refl, ht d refl)

  plain_one_in : (v : Verb) (a : List ℕ) → In (plain (plain_one v a))
  plain_one_in Nil a = one_in (ref_register a) (λ d. does.Nil d) (λ d. tt)
  plain_one_in Freeze a = one_in (ref_register a) (λ d. does.Freeze d) (λ d. tt)
  plain_one_in Out a = one_in (int_register a) (λ d. does.Out d) (λ d. tt)
  plain_one_in _ a = tt

  plain_two_in : (v : Verb) (a c : List ℕ) → In (plain (plain_two v a c))
  plain_two_in Set a c = two_in (int_register a) (signed_number c) (λ d k. does.Set d k) (λ d k. tt)
  plain_two_in Mov a c = two_in (int_register a) (int_register c) (λ d s. does.Mov d s) (λ d s. tt)
  plain_two_in Movr a c = two_in (ref_register a) (ref_register c) (λ d s. does.Movr d s) (λ d s. tt)
  plain_two_in Cntr a c = two_in (int_register a) (ref_register c) (λ d s. does.Cntr d s) (λ d s. tt)
  plain_two_in Cnti a c = two_in (int_register a) (ref_register c) (λ d s. does.Cnti d s) (λ d s. tt)
  plain_two_in _ a c = tt

  plain_three_in : (v : Verb) (a c d : List ℕ) → In (plain (plain_three v a c d))
  plain_three_in (Calc op) a c d = three_in (int_register a) (int_register c) (int_register d) (λ t x y. does.Calc op t x y) (λ t x y. tt)
  plain_three_in Same a c d = three_in (int_register a) (ref_register c) (ref_register d) (λ t x y. does.Same t x y) (λ t x y. tt)
  plain_three_in Newm a c d = three_in (ref_register a) (int_register c) (int_register d) (λ t x y. does.Newm t x y) (λ t x y. tt)
  plain_three_in Pack a c d = pack_in (ref_register a) (field_count c) (field_count d) (count_within c) (count_within d)
  plain_three_in Getr a c d = three_in (ref_register a) (ref_register c) (int_register d) (λ t x y. does.Getr t x y) (λ t x y. tt)
  plain_three_in Geti a c d = three_in (int_register a) (ref_register c) (int_register d) (λ t x y. does.Geti t x y) (λ t x y. tt)
  plain_three_in Putr a c d = three_in (ref_register a) (int_register c) (ref_register d) (λ t x y. does.Putr t x y) (λ t x y. tt)
  plain_three_in Puti a c d = three_in (ref_register a) (int_register c) (int_register d) (λ t x y. does.Puti t x y) (λ t x y. tt)
  plain_three_in _ a c d = tt

  plain_five_in : (v : Verb) (a c d e g : List ℕ) → In (plain (plain_five v a c d e g))
  plain_five_in Cas a c d e g = five_in (int_register a) (ref_register c) (int_register d) (ref_register e) (ref_register g)
  plain_five_in _ a c d e g = tt

  -- instructions that name

  jump_on_zero_in : (r : Option ℕ) (c : List ℕ) → In (jump_on_zero labels r c)
  jump_on_zero_in None c = tt
  jump_on_zero_in (Some a) c = either (all_functions o) (p + 1) (is_name c) (at_label (numbered_of labels c) (λ q. does.Jz a q)) WrongOperand (to_label_on_zero a (numbered_of labels c) c refl) tt

  calling_in : (r : Option ℕ) (name : List ℕ) → name_index o.functions name ≡ r → In (calling r)
  calling_in None name e = tt
  calling_in (Some k) name e = let lt = place_below o.functions name k e in omega (arith, lt)

  forking_in : (r s : Option ℕ) (a c : List ℕ) → name_index o.functions a ≡ r → name_index o.functions c ≡ s → In (forking r s)
  forking_in None s a c e f = tt
  forking_in (Some k) None a c e f = tt
  forking_in (Some k) (Some m) a c e f =
      let lt : k < all_functions o = omega (arith, place_below o.functions a k e) in
      let mt : m < all_functions o = omega (arith, place_below o.functions c m f) in
      (lt, mt)

  looping_in : (r s : Option ℕ) (a : List ℕ) → name_index o.loops a ≡ s → In (looping o r s)
  looping_in None s a e = tt
  looping_in (Some f) None a e = tt
  looping_in (Some f) (Some k) a e = let lt = place_below o.loops a k e in omega (arith, lt)

  one_operand : (v : Verb) (a : List ℕ) → In (order_one o labels v a)
  one_operand Jmp a = either (all_functions o) (p + 1) (is_name a) (at_label (numbered_of labels a) (λ q. does.Jmp q)) WrongOperand (to_label (numbered_of labels a) a refl) tt
  one_operand Call a = either (all_functions o) (p + 1) (is_name a) (calling (name_index o.functions a)) WrongOperand (calling_in (name_index o.functions a) a refl) tt
  one_operand Pfor a = either (all_functions o) (p + 1) (is_name a) (looping o (name_index o.functions a) (name_index o.loops a)) WrongOperand (looping_in (name_index o.functions a) (name_index o.loops a) a refl) tt
  one_operand Nil a = plain_one_in Nil a
  one_operand Freeze a = plain_one_in Freeze a
  one_operand Out a = plain_one_in Out a
  one_operand _ a = tt

  two_operands : (v : Verb) (a c : List ℕ) → In (order_two o labels v a c)
  two_operands Jz a c = jump_on_zero_in (int_register a) c
  two_operands Par a c = either (all_functions o) (p + 1) (is_name a && is_name c) (forking (name_index o.functions a) (name_index o.functions c)) WrongOperand (forking_in (name_index o.functions a) (name_index o.functions c) a c refl refl) tt
  two_operands Set a c = plain_two_in Set a c
  two_operands Mov a c = plain_two_in Mov a c
  two_operands Movr a c = plain_two_in Movr a c
  two_operands Cntr a c = plain_two_in Cntr a c
  two_operands Cnti a c = plain_two_in Cnti a c
  two_operands _ a c = tt

  no_operand : (v : Verb) → In (order_alone v)
  no_operand Ret = tt
  no_operand _ = tt

  -- what an instruction names exists, and its operands yield an instruction or a fault
  pub order_in : (v : Verb) (ws : List (List ℕ)) → IsInRange (all_functions o) (p + 1) (ordered_sense o labels v ws)
  order_in v [] = no_operand v
  order_in v (a ∷ []) = one_operand v a
  order_in v (a ∷ c ∷ []) = two_operands v a c
  order_in v (a ∷ c ∷ d ∷ []) = plain_three_in v a c d
  order_in v (a ∷ c ∷ d ∷ e ∷ []) = tt
  order_in v (a ∷ c ∷ d ∷ e ∷ g ∷ []) = plain_five_in v a c d e g
  order_in v (a ∷ c ∷ d ∷ e ∷ g ∷ h ∷ ws) = tt

-- THE NUMBERS OF LABELS

more_at_most : (b c : ℕ) (es : List NotedName) → b ≤ c → AreAtMost b es → AreAtMost c es
more_at_most b c [] le h = tt
more_at_most b c (e ∷ es) le h = (omega (arith, le, h.0), more_at_most b c es le h.1)

one_at_most : (b : ℕ) (es : List NotedName) (e : NotedName) → AreAtMost b es → e.number ≤ b → AreAtMost b (es ++ e ∷ [])
one_at_most b [] e h le = (le, tt)
one_at_most b (x ∷ es) e h le = (h.0, one_at_most b es e h.1 le)

noted_at_most : (b : ℕ) (es : List NotedName) (e : NotedName) (t : Bool) → AreAtMost b es → e.number ≤ b → AreAtMost b (cond t es (es ++ e ∷ []))
noted_at_most b es e true h le = h
noted_at_most b es e false h le = one_at_most b es e h le

noted_if_at_most : (b : ℕ) (es : List NotedName) (name : Option (List ℕ)) → AreAtMost b es → AreAtMost b (noted_if es name b)
noted_if_at_most b es None h = h
noted_if_at_most b es (Some name) h = noted_at_most b es (record { name = name; number = b }) (is_noted es name) h (omega arith)

abbrev pub AreInside : Labels → Type 0
AreInside s = AreAtMost s.next s.entries

line_inside : (h : Head) (ws : List (List ℕ)) (s : Labels) → AreInside s → AreInside (label_line h ws s)
line_inside Label ws s h = noted_if_at_most s.next s.entries (only_name ws) h
line_inside (Order v) ws s h = more_at_most s.next (s.next + 1) s.entries (omega arith) h
line_inside _ ws s h = h

either_inside : (b : Bool) (s t : Labels) → AreInside s → AreInside t → AreInside (cond b s t)
either_inside true s t h k = h
either_inside false s t h k = k

pub onto_inside : (s : Labels) (ls : List (List ℕ)) → AreInside s → AreInside (labels_onto s ls)
onto_inside s [] h = h
onto_inside s (l ∷ ls) h =
    let next = label_line (head_of_line l) (operands_of_line l) s in
    either_inside (ends_body (head_of_line l)) s (labels_onto next ls) h (onto_inside next ls (line_inside (head_of_line l) (operands_of_line l) s h))

after_inside : (h : Head) (ws : List (List ℕ)) (s : Labels) → AreInside s → AreInside (labels_after h ws s)
after_inside Begin ws s h = tt
after_inside Label ws s h = line_inside Label ws s h
after_inside (Order v) ws s h = line_inside (Order v) ws s h
after_inside _ ws s h = h

pub above_inside : (above : List (List ℕ)) → AreInside (labels_above above)
above_inside [] = tt
above_inside (l ∷ above) = after_inside (head_of_line l) (operands_of_line l) (labels_above above) (above_inside above)
