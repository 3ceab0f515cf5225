-- What is expected in place of a word, in the words of the language.
use Rattle.std.specs.Prelude.{ℕ, List, ◌++◌, codes}
use Rattle.std.specs.Fmt.{decimal}
use Rattle.text_faults.specs.declared.fault.Operand.{Operand}
use Rattle.text_faults.specs.declared.fault.Operand.TheVariants.{IntRegister, RefRegister, Number, FieldCount, Label, Function, NewFunction, NewLabel}
use Rattle.text_faults.specs.declared.fault.Wrong.{Wrong}
use Rattle.text_faults.specs.declared.fault.Wrong.TheVariants.{NotUtf8, OutsideFunction, UnknownWord, Missing, NotOne, Extra, InsideFunction, OpenFunction, SecondFunction, SecondLabel, UnknownFunction, UnknownLabel, NoMain, ManyFunctions, ManyInstructions}

abbrev pub operand_text : Operand → List ℕ
operand_text IntRegister = codes "an int register i0 to i15"
operand_text RefRegister = codes "a reference register r0 to r15"
operand_text Number = codes "a number from -9223372036854775808 to 9223372036854775807"
operand_text FieldCount = codes "a number from 0 to 16"
operand_text Label = codes "a label of this function"
operand_text Function = codes "a function of this text"
operand_text NewFunction = codes "a name of 1 to 32 letters, digits or _, the first of them no digit"
operand_text NewLabel = codes "a name of 1 to 32 letters, digits or _, the first of them no digit"

abbrev pub taken_text : List ℕ → ℕ → List ℕ
taken_text what line = codes "another name: " ++ what ++ codes " has this one on line " ++ decimal line

abbrev pub expected : Wrong → List ℕ
expected NotUtf8 = codes "a line of UTF-8"
expected OutsideFunction = codes "fn and a name: no function is open"
expected UnknownWord = codes "an instruction, lab or end"
expected (Missing k) = operand_text k
expected (NotOne k) = operand_text k
expected Extra = codes "the end of the line"
expected InsideFunction = codes "end before it: a function is open"
expected OpenFunction = codes "end behind it: a function is open"
expected (SecondFunction line) = taken_text (codes "a function") line
expected (SecondLabel line) = taken_text (codes "a label of this function") line
expected UnknownFunction = codes "a function of this text"
expected UnknownLabel = codes "a label of this function"
expected NoMain = codes "a function main in this text"
expected ManyFunctions = codes "at most 1024 functions"
expected ManyInstructions = codes "at most 65536 instructions"
