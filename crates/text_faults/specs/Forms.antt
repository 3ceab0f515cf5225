-- The operands of each kind of line.
use Rattle.std.specs.Prelude.{List, [], ◌∷◌}
use Rattle.program_reader.specs.declared.head.Verb.{Verb}
use Rattle.program_reader.specs.declared.head.Verb.TheVariants.{Set, Mov, Movr, Nil, Calc, Same, Jmp, Jz, Newm, Pack, Getr, Geti, Putr, Puti, Cntr, Cnti, Freeze, Cas, Call, Par, Pfor, Ret, Out}
use Rattle.program_reader.specs.declared.head.Head.{Head}
use Rattle.program_reader.specs.declared.head.Head.TheVariants.{Begin, Label, Order}
use Rattle.text_faults.specs.declared.fault.Operand.{Operand}
use Rattle.text_faults.specs.declared.fault.Operand.TheVariants.{IntRegister, RefRegister, Number, FieldCount, Label as LabelName, Function, NewFunction, NewLabel}

abbrev pub Form : Type 0
Form = List Operand

-- the operands of an instruction
abbrev pub verb_form : Verb → Form
verb_form Set = IntRegister ∷ Number ∷ []
verb_form Mov = IntRegister ∷ IntRegister ∷ []
verb_form Movr = RefRegister ∷ RefRegister ∷ []
verb_form Nil = RefRegister ∷ []
verb_form (Calc op) = IntRegister ∷ IntRegister ∷ IntRegister ∷ []
verb_form Same = IntRegister ∷ RefRegister ∷ RefRegister ∷ []
verb_form Jmp = LabelName ∷ []
verb_form Jz = IntRegister ∷ LabelName ∷ []
verb_form Newm = RefRegister ∷ IntRegister ∷ IntRegister ∷ []
verb_form Pack = RefRegister ∷ FieldCount ∷ FieldCount ∷ []
verb_form Getr = RefRegister ∷ RefRegister ∷ IntRegister ∷ []
verb_form Geti = IntRegister ∷ RefRegister ∷ IntRegister ∷ []
verb_form Putr = RefRegister ∷ IntRegister ∷ RefRegister ∷ []
verb_form Puti = RefRegister ∷ IntRegister ∷ IntRegister ∷ []
verb_form Cntr = IntRegister ∷ RefRegister ∷ []
verb_form Cnti = IntRegister ∷ RefRegister ∷ []
verb_form Freeze = RefRegister ∷ []
verb_form Cas = IntRegister ∷ RefRegister ∷ IntRegister ∷ RefRegister ∷ RefRegister ∷ []
verb_form Call = Function ∷ []
verb_form Par = Function ∷ Function ∷ []
verb_form Pfor = Function ∷ []
verb_form Ret = []
verb_form Out = IntRegister ∷ []

-- the operands of a line of this kind
abbrev pub head_form : Head → Form
head_form Begin = NewFunction ∷ []
head_form Label = NewLabel ∷ []
head_form (Order v) = verb_form v
head_form _ = []
