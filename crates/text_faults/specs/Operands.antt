-- What an operand has to be.
use Rattle.std.specs.Prelude.{ℕ, Bool, List, is_some}
use Rattle.hh_lang.specs.Number.{signed_number}
use Rattle.program_reader.specs.Names.{is_name}
use Rattle.program_reader.specs.Operands.{int_register, ref_register, field_count}
use Rattle.text_faults.specs.declared.fault.Operand.{Operand}
use Rattle.text_faults.specs.declared.fault.Operand.TheVariants.{IntRegister, RefRegister, Number, FieldCount, Label, Function, NewFunction, NewLabel}

-- whether a word is an operand of this kind
abbrev pub is_operand : Operand → List ℕ → Bool
is_operand IntRegister w = is_some (int_register w)
is_operand RefRegister w = is_some (ref_register w)
is_operand Number w = is_some (signed_number w)
is_operand FieldCount w = is_some (field_count w)
is_operand Label w = is_name w
is_operand Function w = is_name w
is_operand NewFunction w = is_name w
is_operand NewLabel w = is_name w
