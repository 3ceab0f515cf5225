-- Which names on a line are wrong, for the reader and here.
use Rattle.text_faults.proofs.Common.{◌≡◌, ◌+◌, ◌&&◌, ◌||◌, ◌++◌, ℕ, zero, suc, Bool, true, false, cond, List, [], ◌∷◌, length, refl, ap, sym, ◌∙◌, arith, nat_lt, true≢false, Option, Some, None, not, is_some, option_map, position, list_any, list_all, position_or_len, bytes_eq, Instr, Cause, Verb, Set, Mov, Movr, Nil, Calc, Same, Jmp, Jz, Newm, Pack, Getr, Geti, Putr, Puti, Cntr, Cnti, Freeze, Cas, Call, Par, Pfor, Ret, Out, Head, Blank, Begin, End, Label, Order, Unknown, Sense, WrongOperand, Outline, NotedName, is_name, is_noted, name_index, numbered_of, int_register, plain_one, plain_two, plain_three, plain_five, plain, at_label, jump_on_zero, calling, forking, looping, order_alone, order_one, order_two, ordered_sense, only_name, sense_of_name, sense_of, looped_name, LineContext, is_named_in, is_second, names_no_function, names_no_label, Operand, IntRegister, RefRegister, Number, FieldCount, Function, NewFunction, NewLabel, Wrong, UnknownFunction, UnknownLabel, SecondFunction, SecondLabel, LinesAbove, PlacedWord, Form, verb_form, head_form, Wronged, wrong_unless, name_wrong, wronged_or, first_misnamed, cause_of_wrong}
use Rattle.program_reader.specs.declared.cause.Cause.TheVariants as reads
use Rattle.text_faults.specs.declared.fault.Operand.TheVariants.{Label as LabelName}
use Rattle.text_faults.proofs.WordsOf.{texts}
use Rattle.text_faults.proofs.Senses.{Words, cause_in, all_fit}

-- ---- where a name is noted

some_or : (b : Bool) (n : ℕ) (o : Option ℕ) (r : Bool) → is_some o ≡ r → is_some (cond b (Some n) o) ≡ (b || r)
some_or true n o r e = refl
some_or false n o r e = e

pub numbered_is : (es : List NotedName) (name : List ℕ) → is_some (numbered_of es name) ≡ is_noted es name
numbered_is [] name = refl
numbered_is (e ∷ es) name = some_or (bytes_eq name e.name) e.number (numbered_of es name) (is_noted es name) (numbered_is es name)

less_more : (a b : ℕ) → nat_lt (1 + a) (suc b) ≡ nat_lt a b
less_more a b = grind arith

some_below : (b : Bool) (n : ℕ) → is_some (cond b (Some n) None) ≡ b
some_below true n = refl
some_below false n = refl

any_more : {X : Type 0} (p : X → Bool) (xs : List X) (b : Bool) → nat_lt (position_or_len p xs) (length xs) ≡ list_any p xs → nat_lt (cond (not b) (1 + position_or_len p xs) 0) (suc (length xs)) ≡ (b || list_any p xs)
any_more p xs true e = let z : nat_lt 0 (suc (length xs)) ≡ true = grind arith in z
any_more p xs false e = less_more (position_or_len p xs) (length xs) ∙ e

any_below : {X : Type 0} (p : X → Bool) (xs : List X) → nat_lt (position_or_len p xs) (length xs) ≡ list_any p xs
any_below p [] = refl
any_below p (x ∷ xs) = any_more p xs (p x) (any_below p xs)

pub place_is : (es : List NotedName) (name : List ℕ) → is_some (name_index es name) ≡ is_noted es name
place_is es name =
    let p : NotedName → Bool = λ e. bytes_eq name e.name in
    some_below (nat_lt (position_or_len p es) (length es)) (position_or_len p es) ∙ any_below p es

-- ---- the cause for a name

abbrev pub name_cause : Bool → Bool → Bool → Option Cause
name_cause second no_function no_label = cond second (Some reads.TwoNames) (cond no_function (Some reads.NoName) (cond no_label (Some reads.NoLabel) None))

abbrev pub sense_cause : Bool → Sense → Option Cause
sense_cause second x = name_cause second (names_no_function x) (names_no_label x)

-- ---- operands that name nothing

abbrev is_nameless : Operand → Bool
is_nameless IntRegister = true
is_nameless RefRegister = true
is_nameless Number = true
is_nameless FieldCount = true
is_nameless _ = false

never : {P : Type 0} → false ≡ true → P
never e = absurd (true≢false (sym e))

nameless_more : (w : LinesAbove) (k : Operand) (p : PlacedWord) (later : Option Wronged) → is_nameless k ≡ true → wronged_or p (name_wrong w k p.word) later ≡ later
nameless_more w IntRegister p later e = refl
nameless_more w RefRegister p later e = refl
nameless_more w Number p later e = refl
nameless_more w FieldCount p later e = refl
nameless_more w LabelName p later e = never e
nameless_more w Function p later e = never e
nameless_more w NewFunction p later e = never e
nameless_more w NewLabel p later e = never e

both : (a b : Bool) → (a && b) ≡ true → (a ≡ true) × (b ≡ true)
both true b e = (refl, e)
both false b e = never e

nameless : (w : LinesAbove) (form : Form) (ps : List PlacedWord) → list_all is_nameless form ≡ true → first_misnamed w form ps ≡ None
nameless w [] ps e = refl
nameless w (k ∷ ks) [] e = refl
nameless w (k ∷ ks) (p ∷ ps) e =
    let h = both (is_nameless k) (list_all is_nameless ks) e in
    nameless_more w k p (first_misnamed w ks ps) h.0 ∙ nameless w ks ps h.1

plain_none : (x : Option Instr) → sense_cause false (plain x) ≡ None
plain_none (Some i) = refl
plain_none None = refl

module _ (o : Outline) (labels : List NotedName) (v : Verb) where
  nameless_order : (ws : Words) → sense_cause false (order_alone v) ≡ None → ((a : List ℕ) → order_one o labels v a ≡ plain (plain_one v a)) → ((a b : List ℕ) → order_two o labels v a b ≡ plain (plain_two v a b)) → sense_cause false (ordered_sense o labels v ws) ≡ None
  nameless_order [] z s t = z
  nameless_order (a ∷ []) z s t = ap (sense_cause false) (s a) ∙ plain_none (plain_one v a)
  nameless_order (a ∷ b ∷ []) z s t = ap (sense_cause false) (t a b) ∙ plain_none (plain_two v a b)
  nameless_order (a ∷ b ∷ c ∷ []) z s t = plain_none (plain_three v a b c)
  nameless_order (a ∷ b ∷ c ∷ d ∷ []) z s t = refl
  nameless_order (a ∷ b ∷ c ∷ d ∷ e ∷ []) z s t = plain_none (plain_five v a b c d e)
  nameless_order (a ∷ b ∷ c ∷ d ∷ e ∷ f ∷ ws) z s t = refl

-- ---- names, each by what the tables say

never1 : {P : Type 0} (a : Bool) → (a && false) ≡ true → P
never1 true e = never e
never1 false e = never e

never2 : {P : Type 0} (a b : Bool) → (a && (b && false)) ≡ true → P
never2 true b e = never1 b e
never2 false b e = never e

call_by : (p : PlacedWord) (b n : Bool) (x : Option ℕ) → (b && true) ≡ true → is_some x ≡ n → cause_in (wronged_or p (wrong_unless n UnknownFunction) None) ≡ sense_cause false (cond b (calling x) WrongOperand)
call_by p true true (Some f) fit e = refl
call_by p true true None fit e = never e
call_by p true false (Some f) fit e = never (sym e)
call_by p true false None fit e = refl
call_by p false n x fit e = never fit

loop_by : (o : Outline) (p : PlacedWord) (b n : Bool) (x y : Option ℕ) → (b && true) ≡ true → is_some x ≡ n → is_some y ≡ true → cause_in (wronged_or p (wrong_unless n UnknownFunction) None) ≡ sense_cause false (cond b (looping o x y) WrongOperand)
loop_by o p true true (Some f) (Some k) fit e h = refl
loop_by o p true true (Some f) None fit e h = never h
loop_by o p true true None y fit e h = never e
loop_by o p true false (Some f) y fit e h = never (sym e)
loop_by o p true false None y fit e h = refl
loop_by o p false n x y fit e h = never fit

jump_by : (p : PlacedWord) (b n : Bool) (x : Option ℕ) (f : ℕ → Instr) → (b && true) ≡ true → is_some x ≡ n → cause_in (wronged_or p (wrong_unless n UnknownLabel) None) ≡ sense_cause false (cond b (at_label x f) WrongOperand)
jump_by p true true (Some k) f fit e = refl
jump_by p true true None f fit e = never e
jump_by p true false (Some k) f fit e = never (sym e)
jump_by p true false None f fit e = refl
jump_by p false n x f fit e = never fit

jump_on_zero_by : (labels : List NotedName) (q : PlacedWord) (r : Option ℕ) (n : Bool) → (is_some r && (is_name q.word && true)) ≡ true → is_some (numbered_of labels q.word) ≡ n → cause_in (wronged_or q (wrong_unless n UnknownLabel) None) ≡ sense_cause false (jump_on_zero labels r q.word)
jump_on_zero_by labels q (Some r) n fit e = jump_by q (is_name q.word) n (numbered_of labels q.word) _ fit e
jump_on_zero_by labels q None n fit e = never fit

fork_by : (p q : PlacedWord) (b c m n : Bool) (x y : Option ℕ) → (b && (c && true)) ≡ true → is_some x ≡ m → is_some y ≡ n → cause_in (wronged_or p (wrong_unless m UnknownFunction) (wronged_or q (wrong_unless n UnknownFunction) None)) ≡ sense_cause false (cond (b && c) (forking x y) WrongOperand)
fork_by p q true true true true (Some f) (Some g) fit d e = refl
fork_by p q true true true true (Some f) None fit d e = never e
fork_by p q true true true false (Some f) (Some g) fit d e = never (sym e)
fork_by p q true true true false (Some f) None fit d e = refl
fork_by p q true true true n None y fit d e = never d
fork_by p q true true false n (Some f) y fit d e = never (sym d)
fork_by p q true true false n None y fit d e = refl
fork_by p q true false m n x y fit d e = never fit
fork_by p q false c m n x y fit d e = never fit

new_by : (p : PlacedWord) (b n : Bool) (es : List NotedName) (x : Option ℕ) (g : ℕ → Wrong) → ((k : ℕ) → cause_of_wrong (g k) ≡ reads.TwoNames) → (b && true) ≡ true → is_noted es p.word ≡ n → is_some x ≡ n
    → cause_in (wronged_or p (option_map g x) None) ≡ sense_cause (is_named_in es (cond b (Some p.word) None)) (sense_of_name (cond b (Some p.word) None))
new_by p true true es (Some k) g two fit d e = ap (λ c. Some c) (two k) ∙ sym (ap (λ t. cond t (Some reads.TwoNames) None) d)
new_by p true true es None g two fit d e = never e
new_by p true false es (Some k) g two fit d e = never (sym e)
new_by p true false es None g two fit d e = sym (ap (λ t. cond t (Some reads.TwoNames) None) d)
new_by p false n es x g two fit d e = never fit

-- ---- what the tables and the reader's lists have in common

pub record KnowsNames (o : Outline) (s : LineContext) (w : LinesAbove) : Type 0 where
  pub all : w.outline.functions ≡ o.functions
  pub named : w.named ≡ s.named
  pub labeled : (name : List ℕ) → is_noted w.labels.above name ≡ is_noted s.labeled name
  pub labels : s.inside ≡ true → w.labels.all.entries ≡ s.labels

-- the name that a line loops over is noted
abbrev pub KnowsLoop : Outline → Head → Words → Type 0
KnowsLoop o h ws = (name : List ℕ) → looped_name h ws ≡ Some name → is_noted o.loops name ≡ true

module _ (o : Outline) (s : LineContext) (w : LinesAbove) (known : KnowsNames o s w) where
  in_functions : (name : List ℕ) → is_some (name_index o.functions name) ≡ is_noted w.outline.functions name
  in_functions name = place_is o.functions name ∙ ap (λ es. is_noted es name) (sym known.all)

  in_labels : s.inside ≡ true → (name : List ℕ) → is_some (numbered_of s.labels name) ≡ is_noted w.labels.all.entries name
  in_labels inside name = numbered_is s.labels name ∙ ap (λ es. is_noted es name) (sym (known.labels inside))

  -- the first wrong name of a line whose operands fit is what the reader finds
  abbrev NamesAgree : Head → List PlacedWord → Type 0
  NamesAgree h ps = all_fit (head_form h) (texts ps) ≡ true → cause_in (first_misnamed w (head_form h) ps) ≡ sense_cause (is_second s h (texts ps)) (sense_of o s.labels h (texts ps))

  calls : (ps : List PlacedWord) → NamesAgree (Order Call) ps
  calls [] fit = never fit
  calls (p ∷ []) fit = call_by p (is_name p.word) (is_noted w.outline.functions p.word) (name_index o.functions p.word) fit (in_functions p.word)
  calls (p ∷ q ∷ ps) fit = never1 (is_name p.word) fit

  named_loop : (name : List ℕ) (b : Bool) → is_name name ≡ b → (b && true) ≡ true → KnowsLoop o (Order Pfor) (name ∷ []) → is_noted o.loops name ≡ true
  named_loop name true e fit k = k name (ap (λ t. cond t (Some name) None) e)
  named_loop name false e fit k = never fit

  loops : (ps : List PlacedWord) → KnowsLoop o (Order Pfor) (texts ps) → NamesAgree (Order Pfor) ps
  loops [] k fit = never fit
  loops (p ∷ []) k fit =
      loop_by o p (is_name p.word) (is_noted w.outline.functions p.word) (name_index o.functions p.word) (name_index o.loops p.word) fit (in_functions p.word)
      (place_is o.loops p.word ∙ named_loop p.word (is_name p.word) refl fit k)
  loops (p ∷ q ∷ ps) k fit = never1 (is_name p.word) fit

  jumps : (ps : List PlacedWord) → s.inside ≡ true → NamesAgree (Order Jmp) ps
  jumps [] inside fit = never fit
  jumps (p ∷ []) inside fit = jump_by p (is_name p.word) (is_noted w.labels.all.entries p.word) (numbered_of s.labels p.word) _ fit (in_labels inside p.word)
  jumps (p ∷ q ∷ ps) inside fit = never1 (is_name p.word) fit

  jumps_on_zero : (ps : List PlacedWord) → s.inside ≡ true → NamesAgree (Order Jz) ps
  jumps_on_zero [] inside fit = never fit
  jumps_on_zero (p ∷ []) inside fit = never1 (is_some (int_register p.word)) fit
  jumps_on_zero (p ∷ q ∷ []) inside fit = jump_on_zero_by s.labels q (int_register p.word) (is_noted w.labels.all.entries q.word) fit (in_labels inside q.word)
  jumps_on_zero (p ∷ q ∷ r ∷ ps) inside fit = never2 (is_some (int_register p.word)) (is_name q.word) fit

  forks : (ps : List PlacedWord) → NamesAgree (Order Par) ps
  forks [] fit = never fit
  forks (p ∷ []) fit = never1 (is_name p.word) fit
  forks (p ∷ q ∷ []) fit =
      fork_by p q (is_name p.word) (is_name q.word) (is_noted w.outline.functions p.word) (is_noted w.outline.functions q.word) (name_index o.functions p.word) (name_index o.functions q.word) fit
      (in_functions p.word) (in_functions q.word)
  forks (p ∷ q ∷ r ∷ ps) fit = never2 (is_name p.word) (is_name q.word) fit

  others : (v : Verb) (ps : List PlacedWord) → list_all is_nameless (verb_form v) ≡ true → sense_cause false (order_alone v) ≡ None → ((a : List ℕ) → order_one o s.labels v a ≡ plain (plain_one v a)) → ((a b : List ℕ) → order_two o s.labels v a b ≡ plain (plain_two v a b)) → NamesAgree (Order v) ps
  others v ps n z x y fit = ap cause_in (nameless w (verb_form v) ps n) ∙ sym (nameless_order o s.labels v (texts ps) z x y)

  orders : (v : Verb) (ps : List PlacedWord) → s.inside ≡ true → KnowsLoop o (Order v) (texts ps) → NamesAgree (Order v) ps
  orders Set ps i k = others Set ps refl refl (λ a. refl) (λ a b. refl)
  orders Mov ps i k = others Mov ps refl refl (λ a. refl) (λ a b. refl)
  orders Movr ps i k = others Movr ps refl refl (λ a. refl) (λ a b. refl)
  orders Nil ps i k = others Nil ps refl refl (λ a. refl) (λ a b. refl)
  orders (Calc op) ps i k = others (Calc op) ps refl refl (λ a. refl) (λ a b. refl)
  orders Same ps i k = others Same ps refl refl (λ a. refl) (λ a b. refl)
  orders Jmp ps i k = jumps ps i
  orders Jz ps i k = jumps_on_zero ps i
  orders Newm ps i k = others Newm ps refl refl (λ a. refl) (λ a b. refl)
  orders Pack ps i k = others Pack ps refl refl (λ a. refl) (λ a b. refl)
  orders Getr ps i k = others Getr ps refl refl (λ a. refl) (λ a b. refl)
  orders Geti ps i k = others Geti ps refl refl (λ a. refl) (λ a b. refl)
  orders Putr ps i k = others Putr ps refl refl (λ a. refl) (λ a b. refl)
  orders Puti ps i k = others Puti ps refl refl (λ a. refl) (λ a b. refl)
  orders Cntr ps i k = others Cntr ps refl refl (λ a. refl) (λ a b. refl)
  orders Cnti ps i k = others Cnti ps refl refl (λ a. refl) (λ a b. refl)
  orders Freeze ps i k = others Freeze ps refl refl (λ a. refl) (λ a b. refl)
  orders Cas ps i k = others Cas ps refl refl (λ a. refl) (λ a b. refl)
  orders Call ps i k = calls ps
  orders Par ps i k = forks ps
  orders Pfor ps i k = loops ps k
  orders Ret ps i k = others Ret ps refl refl (λ a. refl) (λ a b. refl)
  orders Out ps i k = others Out ps refl refl (λ a. refl) (λ a b. refl)

  begins : (ps : List PlacedWord) → NamesAgree Begin ps
  begins [] fit = never fit
  begins (p ∷ []) fit =
      new_by p (is_name p.word) (is_noted s.named p.word) s.named (numbered_of w.named p.word) SecondFunction (λ k. refl) fit refl
      (numbered_is w.named p.word ∙ ap (λ es. is_noted es p.word) known.named)
  begins (p ∷ q ∷ ps) fit = never1 (is_name p.word) fit

  marks : (ps : List PlacedWord) → NamesAgree Label ps
  marks [] fit = never fit
  marks (p ∷ []) fit =
      new_by p (is_name p.word) (is_noted s.labeled p.word) s.labeled (numbered_of w.labels.above p.word) SecondLabel (λ k. refl) fit refl
      (numbered_is w.labels.above p.word ∙ known.labeled p.word)
  marks (p ∷ q ∷ ps) fit = never1 (is_name p.word) fit

  lone : (h : Head) (ps : List PlacedWord) → head_form h ≡ [] → ((ws : Words) → is_second s h ws ≡ false) → sense_cause false (sense_of o s.labels h []) ≡ None → NamesAgree h ps
  lone h [] f n z fit =
      ap (λ form. cause_in (first_misnamed w form [])) f ∙ sym (ap (λ b. sense_cause b (sense_of o s.labels h [])) (n []) ∙ z)
  lone h (p ∷ ps) f n z fit = never (sym (ap (λ form. all_fit form (texts (p ∷ ps))) f) ∙ fit)

  -- outside a function only a first line of one names anything
  pub names_agree : (h : Head) (ps : List PlacedWord) → ((v : Verb) → h ≡ Order v → s.inside ≡ true) → KnowsLoop o h (texts ps) → NamesAgree h ps
  names_agree Begin ps i k = begins ps
  names_agree Label ps i k = marks ps
  names_agree (Order v) ps i k = orders v ps (i v refl) k
  names_agree Blank ps i k = lone Blank ps refl (λ ws. refl) refl
  names_agree End ps i k = lone End ps refl (λ ws. refl) refl
  names_agree Unknown ps i k = lone Unknown ps refl (λ ws. refl) refl
