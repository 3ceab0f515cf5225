-- What the reader makes of the operands of a line, and which of them are wrong.
use Rattle.text_faults.proofs.Common.{◌≡◌, ◌+◌, ◌&&◌, ℕ, Bool, true, false, cond, List, [], ◌∷◌, length, refl, ap, sym, ◌∙◌, true≢false, Option, Some, None, not, is_some, option_map, signed_number, Instr, Cause, Verb, Set, Mov, Movr, Nil, Calc, Same, Jmp, Jz, Newm, Pack, Getr, Geti, Putr, Puti, Cntr, Cnti, Freeze, Cas, Call, Par, Pfor, Ret, Out, Head, Blank, Begin, End, Label, Order, Unknown, Sense, Fits, Does, WrongOperand, NoSuchFunction, NoSuchLabel, Outline, NotedName, is_name, name_index, numbered_of, int_register, ref_register, field_count, one, two, three, five, plain_one, plain_two, plain_three, plain_five, plain, at_label, jump, jump_on_zero, calling, call, forking, fork, looping, loop_over, order_alone, order_one, order_two, ordered_sense, only_name, sense_of_name, alone, sense_of, has_wrong_operand, Operand, IntRegister, RefRegister, Number, FieldCount, Function, NewFunction, NewLabel, NotOne, PlacedWord, is_operand, Form, verb_form, head_form, Wronged, wronged, first_wrong, cause_of_wrong}
use Rattle.program_reader.specs.declared.cause.Cause.TheVariants as reads
use Rattle.text_faults.specs.declared.fault.Operand.TheVariants.{Label as LabelName}
use Rattle.text_faults.proofs.WordsOf.{texts}

abbrev pub Words : Type 0
Words = List (List ℕ)

-- the cause of what is found
abbrev pub cause_in : Option Wronged → Option Cause
cause_in o = option_map (λ f. cause_of_wrong f.wrong) o

-- a cause, if a test holds
abbrev pub cause_if : Bool → Cause → Option Cause
cause_if b c = cond b (Some c) None

-- ---- the words are operands of these kinds, one of each

abbrev pub all_fit : Form → Words → Bool
all_fit [] [] = true
all_fit [] (w ∷ ws) = false
all_fit (k ∷ ks) [] = false
all_fit (k ∷ ks) (w ∷ ws) = is_operand k w && all_fit ks ws

fit_more : (b r : Bool) (o : Option Wronged) (p : PlacedWord) (k : Operand) → cause_in o ≡ cause_if (not r) reads.Operand → cause_in (cond b o (Some (wronged p (NotOne k)))) ≡ cause_if (not (b && r)) reads.Operand
fit_more true r o p k e = e
fit_more false r o p k e = refl

-- an operand is wrong if they don't fit
pub wrong_unfit : (behind : ℕ) (form : Form) (ps : List PlacedWord) → cause_in (first_wrong behind form ps) ≡ cause_if (not (all_fit form (texts ps))) reads.Operand
wrong_unfit behind [] [] = refl
wrong_unfit behind [] (p ∷ ps) = refl
wrong_unfit behind (k ∷ ks) [] = refl
wrong_unfit behind (k ∷ ks) (p ∷ ps) =
    fit_more (is_operand k p.word) (all_fit ks (texts ps)) (first_wrong (p.column + length p.word) ks ps) p k (wrong_unfit (p.column + length p.word) ks ps)

-- ---- and if they don't, the reader finds a wrong operand

not1 : (a : Bool) → not (a && false) ≡ true
not1 true = refl
not1 false = refl

not2 : (a b : Bool) → not (a && (b && false)) ≡ true
not2 true b = not1 b
not2 false b = refl

not3 : (a b c : Bool) → not (a && (b && (c && false))) ≡ true
not3 true b c = not2 b c
not3 false b c = refl

not4 : (a b c d : Bool) → not (a && (b && (c && (d && false)))) ≡ true
not4 true b c d = not3 b c d
not4 false b c d = refl

not5 : (a b c d e : Bool) → not (a && (b && (c && (d && (e && false))))) ≡ true
not5 true b c d e = not4 b c d e
not5 false b c d e = refl

-- the words fit if and only if the reader finds no wrong operand
abbrev pub Agree : Outline → List NotedName → Verb → Form → Words → Type 0
Agree o labels v form ws = not (all_fit form ws) ≡ has_wrong_operand (ordered_sense o labels v ws)

-- what the reader makes of other numbers of operands than an instruction has
record Alone (v : Verb) : Type 0 where
  is : order_alone v ≡ WrongOperand

record One (o : Outline) (labels : List NotedName) (v : Verb) : Type 0 where
  is : (a : List ℕ) → order_one o labels v a ≡ WrongOperand

record Two (o : Outline) (labels : List NotedName) (v : Verb) : Type 0 where
  is : (a b : List ℕ) → order_two o labels v a b ≡ WrongOperand

record Three (v : Verb) : Type 0 where
  is : (a b c : List ℕ) → plain_three v a b c ≡ None

record Five (v : Verb) : Type 0 where
  is : (a b c d e : List ℕ) → plain_five v a b c d e ≡ None

module _ (o : Outline) (labels : List NotedName) (v : Verb) where
  wrong : {s : Sense} → s ≡ WrongOperand → true ≡ has_wrong_operand s
  wrong e = sym (ap has_wrong_operand e)

  wrong_plain : {x : Option Instr} → x ≡ None → true ≡ has_wrong_operand (plain x)
  wrong_plain e = sym (ap (λ y. has_wrong_operand (plain y)) e)

  with_one : (k : Operand) → Alone v → ((a : List ℕ) → not (is_operand k a && true) ≡ has_wrong_operand (order_one o labels v a)) → Two o labels v → Three v → Five v → (ws : Words) → Agree o labels v (k ∷ []) ws
  with_one k z h t x y [] = wrong z.is
  with_one k z h t x y (a ∷ []) = h a
  with_one k z h t x y (a ∷ b ∷ []) = not1 (is_operand k a) ∙ wrong (t.is a b)
  with_one k z h t x y (a ∷ b ∷ c ∷ []) = not1 (is_operand k a) ∙ wrong_plain (x.is a b c)
  with_one k z h t x y (a ∷ b ∷ c ∷ d ∷ []) = not1 (is_operand k a)
  with_one k z h t x y (a ∷ b ∷ c ∷ d ∷ e ∷ []) = not1 (is_operand k a) ∙ wrong_plain (y.is a b c d e)
  with_one k z h t x y (a ∷ b ∷ c ∷ d ∷ e ∷ f ∷ ws) = not1 (is_operand k a)

  with_two : (k l : Operand) → Alone v → One o labels v → ((a b : List ℕ) → not (is_operand k a && (is_operand l b && true)) ≡ has_wrong_operand (order_two o labels v a b)) → Three v → Five v → (ws : Words) → Agree o labels v (k ∷ l ∷ []) ws
  with_two k l z s h x y [] = wrong z.is
  with_two k l z s h x y (a ∷ []) = not1 (is_operand k a) ∙ wrong (s.is a)
  with_two k l z s h x y (a ∷ b ∷ []) = h a b
  with_two k l z s h x y (a ∷ b ∷ c ∷ []) = not2 (is_operand k a) (is_operand l b) ∙ wrong_plain (x.is a b c)
  with_two k l z s h x y (a ∷ b ∷ c ∷ d ∷ []) = not2 (is_operand k a) (is_operand l b)
  with_two k l z s h x y (a ∷ b ∷ c ∷ d ∷ e ∷ []) = not2 (is_operand k a) (is_operand l b) ∙ wrong_plain (y.is a b c d e)
  with_two k l z s h x y (a ∷ b ∷ c ∷ d ∷ e ∷ f ∷ ws) = not2 (is_operand k a) (is_operand l b)

  with_three : (k l m : Operand) → Alone v → One o labels v → Two o labels v → ((a b c : List ℕ) → not (is_operand k a && (is_operand l b && (is_operand m c && true))) ≡ has_wrong_operand (plain (plain_three v a b c))) → Five v → (ws : Words) → Agree o labels v (k ∷ l ∷ m ∷ []) ws
  with_three k l m z s t h y [] = wrong z.is
  with_three k l m z s t h y (a ∷ []) = not1 (is_operand k a) ∙ wrong (s.is a)
  with_three k l m z s t h y (a ∷ b ∷ []) = not2 (is_operand k a) (is_operand l b) ∙ wrong (t.is a b)
  with_three k l m z s t h y (a ∷ b ∷ c ∷ []) = h a b c
  with_three k l m z s t h y (a ∷ b ∷ c ∷ d ∷ []) = not3 (is_operand k a) (is_operand l b) (is_operand m c)
  with_three k l m z s t h y (a ∷ b ∷ c ∷ d ∷ e ∷ []) = not3 (is_operand k a) (is_operand l b) (is_operand m c) ∙ wrong_plain (y.is a b c d e)
  with_three k l m z s t h y (a ∷ b ∷ c ∷ d ∷ e ∷ f ∷ ws) = not3 (is_operand k a) (is_operand l b) (is_operand m c)

-- operands that name nothing

by_one : (x : Option ℕ) (f : ℕ → Instr) → not (is_some x && true) ≡ has_wrong_operand (plain (one x f))
by_one (Some a) f = refl
by_one None f = refl

by_two : {A B : Type 0} (x : Option A) (y : Option B) (f : A → B → Instr) → not (is_some x && (is_some y && true)) ≡ has_wrong_operand (plain (two x y f))
by_two (Some a) (Some b) f = refl
by_two (Some a) None f = refl
by_two None y f = refl

by_three : (x y z : Option ℕ) (f : ℕ → ℕ → ℕ → Instr) → not (is_some x && (is_some y && (is_some z && true))) ≡ has_wrong_operand (plain (three x y z f))
by_three (Some a) (Some b) (Some c) f = refl
by_three (Some a) (Some b) None f = refl
by_three (Some a) None z f = refl
by_three None y z f = refl

by_five : (v w x y z : Option ℕ) → not (is_some v && (is_some w && (is_some x && (is_some y && (is_some z && true))))) ≡ has_wrong_operand (plain (five v w x y z))
by_five (Some a) (Some b) (Some c) (Some d) (Some e) = refl
by_five (Some a) (Some b) (Some c) (Some d) None = refl
by_five (Some a) (Some b) (Some c) None z = refl
by_five (Some a) (Some b) None y z = refl
by_five (Some a) None x y z = refl
by_five None w x y z = refl

-- names

by_jump : (b : Bool) (x : Option ℕ) (f : ℕ → Instr) → not (b && true) ≡ has_wrong_operand (cond b (at_label x f) WrongOperand)
by_jump true (Some p) f = refl
by_jump true None f = refl
by_jump false x f = refl

by_jump_on_zero : (labels : List NotedName) (r : Option ℕ) (n : List ℕ) → not (is_some r && (is_name n && true)) ≡ has_wrong_operand (jump_on_zero labels r n)
by_jump_on_zero labels None n = refl
by_jump_on_zero labels (Some r) n = by_jump (is_name n) (numbered_of labels n) _

by_call : (b : Bool) (x : Option ℕ) → not (b && true) ≡ has_wrong_operand (cond b (calling x) WrongOperand)
by_call true (Some f) = refl
by_call true None = refl
by_call false x = refl

by_fork : (a b : Bool) (x y : Option ℕ) → not (a && (b && true)) ≡ has_wrong_operand (cond (a && b) (forking x y) WrongOperand)
by_fork true true (Some f) (Some g) = refl
by_fork true true (Some f) None = refl
by_fork true true None y = refl
by_fork true false x y = refl
by_fork false b x y = refl

by_loop : (o : Outline) (b : Bool) (x y : Option ℕ) → not (b && true) ≡ has_wrong_operand (cond b (looping o x y) WrongOperand)
by_loop o true (Some f) (Some k) = refl
by_loop o true (Some f) None = refl
by_loop o true None y = refl
by_loop o false x y = refl

no_alone : {v : Verb} → order_alone v ≡ WrongOperand → Alone v
no_alone e = record { is = e }

module _ (o : Outline) (labels : List NotedName) where
  no_one : (v : Verb) → ((a : List ℕ) → order_one o labels v a ≡ WrongOperand) → One o labels v
  no_one v e = record { is = e }

  no_two : (v : Verb) → ((a b : List ℕ) → order_two o labels v a b ≡ WrongOperand) → Two o labels v
  no_two v e = record { is = e }

  no_three : (v : Verb) → ((a b c : List ℕ) → plain_three v a b c ≡ None) → Three v
  no_three v e = record { is = e }

  no_five : (v : Verb) → ((a b c d e : List ℕ) → plain_five v a b c d e ≡ None) → Five v
  no_five v e = record { is = e }

  -- an instruction with one operand, with two, or with three
  singles : (v : Verb) (k : Operand) → order_alone v ≡ WrongOperand → ((a : List ℕ) → not (is_operand k a && true) ≡ has_wrong_operand (order_one o labels v a)) → ((a b : List ℕ) → order_two o labels v a b ≡ WrongOperand) → ((a b c : List ℕ) → plain_three v a b c ≡ None) → ((a b c d e : List ℕ) → plain_five v a b c d e ≡ None) → (ws : Words) → Agree o labels v (k ∷ []) ws
  singles v k z h t x y = with_one o labels v k (no_alone z) h (no_two v t) (no_three v x) (no_five v y)

  pairs : (v : Verb) (k l : Operand) → order_alone v ≡ WrongOperand → ((a : List ℕ) → order_one o labels v a ≡ WrongOperand) → ((a b : List ℕ) → not (is_operand k a && (is_operand l b && true)) ≡ has_wrong_operand (order_two o labels v a b)) → ((a b c : List ℕ) → plain_three v a b c ≡ None) → ((a b c d e : List ℕ) → plain_five v a b c d e ≡ None) → (ws : Words) → Agree o labels v (k ∷ l ∷ []) ws
  pairs v k l z s h x y = with_two o labels v k l (no_alone z) (no_one v s) h (no_three v x) (no_five v y)

  triples : (v : Verb) (k l m : Operand) → order_alone v ≡ WrongOperand → ((a : List ℕ) → order_one o labels v a ≡ WrongOperand) → ((a b : List ℕ) → order_two o labels v a b ≡ WrongOperand) → ((a b c : List ℕ) → not (is_operand k a && (is_operand l b && (is_operand m c && true))) ≡ has_wrong_operand (plain (plain_three v a b c))) → ((a b c d e : List ℕ) → plain_five v a b c d e ≡ None) → (ws : Words) → Agree o labels v (k ∷ l ∷ m ∷ []) ws
  triples v k l m z s t h y = with_three o labels v k l m (no_alone z) (no_one v s) (no_two v t) h (no_five v y)

  returns : (ws : Words) → Agree o labels Ret [] ws
  returns [] = refl
  returns (a ∷ []) = refl
  returns (a ∷ b ∷ []) = refl
  returns (a ∷ b ∷ c ∷ []) = refl
  returns (a ∷ b ∷ c ∷ d ∷ []) = refl
  returns (a ∷ b ∷ c ∷ d ∷ e ∷ []) = refl
  returns (a ∷ b ∷ c ∷ d ∷ e ∷ f ∷ ws) = refl

  swaps : (ws : Words) → Agree o labels Cas (verb_form Cas) ws
  swaps [] = refl
  swaps (a ∷ []) = not1 (is_some (int_register a))
  swaps (a ∷ b ∷ []) = not2 (is_some (int_register a)) (is_some (ref_register b))
  swaps (a ∷ b ∷ c ∷ []) = not3 (is_some (int_register a)) (is_some (ref_register b)) (is_some (int_register c))
  swaps (a ∷ b ∷ c ∷ d ∷ []) = not4 (is_some (int_register a)) (is_some (ref_register b)) (is_some (int_register c)) (is_some (ref_register d))
  swaps (a ∷ b ∷ c ∷ d ∷ e ∷ []) = by_five (int_register a) (ref_register b) (int_register c) (ref_register d) (ref_register e)
  swaps (a ∷ b ∷ c ∷ d ∷ e ∷ f ∷ ws) = not5 (is_some (int_register a)) (is_some (ref_register b)) (is_some (int_register c)) (is_some (ref_register d)) (is_some (ref_register e))

  verbs_agree : (v : Verb) (ws : Words) → Agree o labels v (verb_form v) ws
  verbs_agree Set = pairs Set IntRegister Number refl (λ a. refl) (λ a b. by_two (int_register a) (signed_number b) _) (λ a b c. refl) (λ a b c d e. refl)
  verbs_agree Mov = pairs Mov IntRegister IntRegister refl (λ a. refl) (λ a b. by_two (int_register a) (int_register b) _) (λ a b c. refl) (λ a b c d e. refl)
  verbs_agree Movr = pairs Movr RefRegister RefRegister refl (λ a. refl) (λ a b. by_two (ref_register a) (ref_register b) _) (λ a b c. refl) (λ a b c d e. refl)
  verbs_agree Nil = singles Nil RefRegister refl (λ a. by_one (ref_register a) _) (λ a b. refl) (λ a b c. refl) (λ a b c d e. refl)
  verbs_agree (Calc op) = triples (Calc op) IntRegister IntRegister IntRegister refl (λ a. refl) (λ a b. refl) (λ a b c. by_three (int_register a) (int_register b) (int_register c) _) (λ a b c d e. refl)
  verbs_agree Same = triples Same IntRegister RefRegister RefRegister refl (λ a. refl) (λ a b. refl) (λ a b c. by_three (int_register a) (ref_register b) (ref_register c) _) (λ a b c d e. refl)
  verbs_agree Jmp = singles Jmp LabelName refl (λ a. by_jump (is_name a) (numbered_of labels a) _) (λ a b. refl) (λ a b c. refl) (λ a b c d e. refl)
  verbs_agree Jz = pairs Jz IntRegister LabelName refl (λ a. refl) (λ a b. by_jump_on_zero labels (int_register a) b) (λ a b c. refl) (λ a b c d e. refl)
  verbs_agree Newm = triples Newm RefRegister IntRegister IntRegister refl (λ a. refl) (λ a b. refl) (λ a b c. by_three (ref_register a) (int_register b) (int_register c) _) (λ a b c d e. refl)
  verbs_agree Pack = triples Pack RefRegister FieldCount FieldCount refl (λ a. refl) (λ a b. refl) (λ a b c. by_three (ref_register a) (field_count b) (field_count c) _) (λ a b c d e. refl)
  verbs_agree Getr = triples Getr RefRegister RefRegister IntRegister refl (λ a. refl) (λ a b. refl) (λ a b c. by_three (ref_register a) (ref_register b) (int_register c) _) (λ a b c d e. refl)
  verbs_agree Geti = triples Geti IntRegister RefRegister IntRegister refl (λ a. refl) (λ a b. refl) (λ a b c. by_three (int_register a) (ref_register b) (int_register c) _) (λ a b c d e. refl)
  verbs_agree Putr = triples Putr RefRegister IntRegister RefRegister refl (λ a. refl) (λ a b. refl) (λ a b c. by_three (ref_register a) (int_register b) (ref_register c) _) (λ a b c d e. refl)
  verbs_agree Puti = triples Puti RefRegister IntRegister IntRegister refl (λ a. refl) (λ a b. refl) (λ a b c. by_three (ref_register a) (int_register b) (int_register c) _) (λ a b c d e. refl)
  verbs_agree Cntr = pairs Cntr IntRegister RefRegister refl (λ a. refl) (λ a b. by_two (int_register a) (ref_register b) _) (λ a b c. refl) (λ a b c d e. refl)
  verbs_agree Cnti = pairs Cnti IntRegister RefRegister refl (λ a. refl) (λ a b. by_two (int_register a) (ref_register b) _) (λ a b c. refl) (λ a b c d e. refl)
  verbs_agree Freeze = singles Freeze RefRegister refl (λ a. by_one (ref_register a) _) (λ a b. refl) (λ a b c. refl) (λ a b c d e. refl)
  verbs_agree Cas = swaps
  verbs_agree Call = singles Call Function refl (λ a. by_call (is_name a) (name_index o.functions a)) (λ a b. refl) (λ a b c. refl) (λ a b c d e. refl)
  verbs_agree Par = pairs Par Function Function refl (λ a. refl) (λ a b. by_fork (is_name a) (is_name b) (name_index o.functions a) (name_index o.functions b)) (λ a b c. refl) (λ a b c d e. refl)
  verbs_agree Pfor = singles Pfor Function refl (λ a. by_loop o (is_name a) (name_index o.functions a) (name_index o.loops a)) (λ a b. refl) (λ a b c. refl) (λ a b c d e. refl)
  verbs_agree Ret = returns
  verbs_agree Out = singles Out IntRegister refl (λ a. by_one (int_register a) _) (λ a b. refl) (λ a b c. refl) (λ a b c d e. refl)

  by_name : (b : Bool) (a : List ℕ) → not (b && true) ≡ has_wrong_operand (sense_of_name (cond b (Some a) None))
  by_name true a = refl
  by_name false a = refl

  name_agrees : (k : Operand) (ws : Words) → ((a : List ℕ) → is_operand k a ≡ is_name a) → not (all_fit (k ∷ []) ws) ≡ has_wrong_operand (sense_of_name (only_name ws))
  name_agrees k [] h = refl
  name_agrees k (a ∷ []) h = ap (λ b. not (b && true)) (h a) ∙ by_name (is_name a) a
  name_agrees k (a ∷ b ∷ ws) h = not1 (is_operand k a)

  alone_agrees : (ws : Words) → not (all_fit [] ws) ≡ has_wrong_operand (alone ws)
  alone_agrees [] = refl
  alone_agrees (w ∷ ws) = refl

  -- of each line the words fit if and only if the reader finds no wrong operand
  pub senses_agree : (h : Head) (ws : Words) → not (all_fit (head_form h) ws) ≡ has_wrong_operand (sense_of o labels h ws)
  senses_agree Begin ws = name_agrees NewFunction ws (λ a. refl)
  senses_agree Label ws = name_agrees NewLabel ws (λ a. refl)
  senses_agree (Order v) ws = verbs_agree v ws
  senses_agree Blank ws = alone_agrees ws
  senses_agree End ws = alone_agrees ws
  senses_agree Unknown ws = alone_agrees ws
