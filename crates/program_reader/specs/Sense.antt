-- What the operands of a line say.
use Rattle.std.specs.Prelude.{ℕ, ◌+◌, ◌*◌, ◌^◌, ◌<◌, ◌&&◌, Option, Some, None, List, [], ◌∷◌, length, if◌then◌else◌}
use Rattle.hh_lang.specs.Number.{signed_number}
use Rattle.hh_lang.specs.declared.instr.Instr.{Instr}
use Rattle.hh_lang.specs.declared.instr.Instr.TheVariants as does
use Rattle.program_reader.specs.declared.head.Verb.{Verb}
use Rattle.program_reader.specs.declared.head.Verb.TheVariants.{Set, Mov, Movr, Nil, Calc, Same, Jmp, Jz, Newm, Pack, Getr, Geti, Putr, Puti, Cntr, Cnti, Freeze, Cas, Call, Par, Pfor, Ret, Out}
use Rattle.program_reader.specs.declared.head.Head.{Head}
use Rattle.program_reader.specs.declared.head.Head.TheVariants.{Begin, Label, Order}
use Rattle.program_reader.specs.declared.sense.Sense.{Sense}
use Rattle.program_reader.specs.declared.sense.Sense.TheVariants.{Fits, Does, WrongOperand, NoSuchFunction, NoSuchLabel}
use Rattle.program_reader.specs.declared.sense.Outline.{Outline}
use Rattle.program_reader.specs.Names.{NotedName, is_name, name_index, numbered_of}
use Rattle.program_reader.specs.Operands.{int_register, ref_register, field_count}

abbrev pub one : {A : Type 0} → Option A → (A → Instr) → Option Instr
one (Some a) f = Some (f a)
one None f = None

abbrev pub two : {A B : Type 0} → Option A → Option B → (A → B → Instr) → Option Instr
two (Some a) y f = one y (f a)
two None y f = None

abbrev pub three : {A B C : Type 0} → Option A → Option B → Option C → (A → B → C → Instr) → Option Instr
three (Some a) y z f = two y z (f a)
three None y z f = None

abbrev pub five : Option ℕ → Option ℕ → Option ℕ → Option ℕ → Option ℕ → Option Instr
five (Some d) (Some o) k e v = three k e v (λ i x y. does.Cas d o i x y)
five _ _ k e v = None

-- instructions that name nothing, by the number of their operands

abbrev pub plain_one : Verb → List ℕ → Option Instr
plain_one Nil a = one (ref_register a) (λ d. does.Nil d)
plain_one Freeze a = one (ref_register a) (λ o. does.Freeze o)
plain_one Out a = one (int_register a) (λ s. does.Out s)
plain_one _ a = None

abbrev pub plain_two : Verb → List ℕ → List ℕ → Option Instr
plain_two Set a b = two (int_register a) (signed_number b) (λ d k. does.Set d k)
plain_two Mov a b = two (int_register a) (int_register b) (λ d s. does.Mov d s)
plain_two Movr a b = two (ref_register a) (ref_register b) (λ d s. does.Movr d s)
plain_two Cntr a b = two (int_register a) (ref_register b) (λ d o. does.Cntr d o)
plain_two Cnti a b = two (int_register a) (ref_register b) (λ d o. does.Cnti d o)
plain_two _ a b = None

abbrev pub plain_three : Verb → List ℕ → List ℕ → List ℕ → Option Instr
plain_three (Calc op) a b c = three (int_register a) (int_register b) (int_register c) (λ d x y. does.Calc op d x y)
plain_three Same a b c = three (int_register a) (ref_register b) (ref_register c) (λ d x y. does.Same d x y)
plain_three Newm a b c = three (ref_register a) (int_register b) (int_register c) (λ d x y. does.Newm d x y)
plain_three Pack a b c = three (ref_register a) (field_count b) (field_count c) (λ d x y. does.Pack d x y)
plain_three Getr a b c = three (ref_register a) (ref_register b) (int_register c) (λ d o k. does.Getr d o k)
plain_three Geti a b c = three (int_register a) (ref_register b) (int_register c) (λ d o k. does.Geti d o k)
plain_three Putr a b c = three (ref_register a) (int_register b) (ref_register c) (λ o k v. does.Putr o k v)
plain_three Puti a b c = three (ref_register a) (int_register b) (int_register c) (λ o k v. does.Puti o k v)
plain_three _ a b c = None

abbrev pub plain_five : Verb → List ℕ → List ℕ → List ℕ → List ℕ → List ℕ → Option Instr
plain_five Cas a b c d e = five (int_register a) (ref_register b) (int_register c) (ref_register d) (ref_register e)
plain_five _ a b c d e = None

abbrev pub plain : Option Instr → Sense
plain (Some i) = Does i
plain None = WrongOperand

-- instructions that name a label or functions

abbrev pub at_label : Option ℕ → (ℕ → Instr) → Sense
at_label (Some place) f = Does (f place)
at_label None f = NoSuchLabel

abbrev pub jump : List NotedName → List ℕ → Sense
jump labels a = if is_name a then at_label (numbered_of labels a) (λ p. does.Jmp p) else WrongOperand

abbrev pub jump_on_zero : List NotedName → Option ℕ → List ℕ → Sense
jump_on_zero labels None b = WrongOperand
jump_on_zero labels (Some r) b = if is_name b then at_label (numbered_of labels b) (λ p. does.Jz r p) else WrongOperand

abbrev pub calling : Option ℕ → Sense
calling (Some f) = Does (does.Call f)
calling None = NoSuchFunction

abbrev pub call : Outline → List ℕ → Sense
call o a = if is_name a then calling (name_index o.functions a) else WrongOperand

abbrev pub forking : Option ℕ → Option ℕ → Sense
forking (Some f) (Some g) = Does (does.Par f g)
forking _ _ = NoSuchFunction

abbrev pub fork : Outline → List ℕ → List ℕ → Sense
fork o a b = if is_name a && is_name b then forking (name_index o.functions a) (name_index o.functions b) else WrongOperand

-- the functions of loops follow those of the text, three for each loop
abbrev pub loop_function : Outline → ℕ → ℕ
loop_function o k = length o.functions + 3 * k

abbrev pub looping : Outline → Option ℕ → Option ℕ → Sense
looping o (Some f) (Some k) = Does (does.Call (loop_function o k))
looping o _ _ = NoSuchFunction

abbrev pub loop_over : Outline → List ℕ → Sense
loop_over o a = if is_name a then looping o (name_index o.functions a) (name_index o.loops a) else WrongOperand

-- what the operands of an instruction say, by their number

abbrev pub order_alone : Verb → Sense
order_alone Ret = Does does.Ret
order_alone _ = WrongOperand

abbrev pub order_one : Outline → List NotedName → Verb → List ℕ → Sense
order_one o labels Jmp a = jump labels a
order_one o labels Call a = call o a
order_one o labels Pfor a = loop_over o a
order_one o labels v a = plain (plain_one v a)

abbrev pub order_two : Outline → List NotedName → Verb → List ℕ → List ℕ → Sense
order_two o labels Jz a b = jump_on_zero labels (int_register a) b
order_two o labels Par a b = fork o a b
order_two o labels v a b = plain (plain_two v a b)

abbrev pub ordered_sense : Outline → List NotedName → Verb → List (List ℕ) → Sense
ordered_sense o labels v [] = order_alone v
ordered_sense o labels v (a ∷ []) = order_one o labels v a
ordered_sense o labels v (a ∷ b ∷ []) = order_two o labels v a b
ordered_sense o labels v (a ∷ b ∷ c ∷ []) = plain (plain_three v a b c)
ordered_sense o labels v (a ∷ b ∷ c ∷ d ∷ []) = WrongOperand
ordered_sense o labels v (a ∷ b ∷ c ∷ d ∷ e ∷ []) = plain (plain_five v a b c d e)
ordered_sense o labels v (a ∷ b ∷ c ∷ d ∷ e ∷ f ∷ ws) = WrongOperand

-- the name after `fn` or `lab`, which is the only operand
abbrev pub only_name : List (List ℕ) → Option (List ℕ)
only_name (a ∷ []) = if is_name a then Some a else None
only_name _ = None

abbrev pub sense_of_name : Option (List ℕ) → Sense
sense_of_name (Some name) = Fits
sense_of_name None = WrongOperand

abbrev pub alone : List (List ℕ) → Sense
alone [] = Fits
alone (w ∷ ws) = WrongOperand

-- what the operands of a line of this kind say
abbrev pub sense_of : Outline → List NotedName → Head → List (List ℕ) → Sense
sense_of o labels Begin ws = sense_of_name (only_name ws)
sense_of o labels Label ws = sense_of_name (only_name ws)
sense_of o labels (Order v) ws = ordered_sense o labels v ws
sense_of o labels _ ws = alone ws

-- the number of all functions, those of loops included, fits in 32 bits
abbrev pub OutlineIsSmall : Outline → Type 0
OutlineIsSmall o = length o.functions + 3 * length o.loops < 2 ^ 32
