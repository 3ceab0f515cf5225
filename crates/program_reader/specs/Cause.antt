-- Causes as they are printed.
use Rattle.std.specs.Prelude.{ℕ, List, codes}
use Rattle.program_reader.specs.declared.cause.Cause.{Cause}
use Rattle.program_reader.specs.declared.cause.Cause.TheVariants.{TooLong, NotUtf8, Word, Operand, NoEnd, TwoNames, NoName, NoLabel, NoMain, TooMany}

abbrev pub text_of_cause : Cause → List ℕ
text_of_cause TooLong = codes "toolong"
text_of_cause NotUtf8 = codes "notutf8"
text_of_cause Word = codes "word"
text_of_cause Operand = codes "operand"
text_of_cause NoEnd = codes "noend"
text_of_cause TwoNames = codes "twonames"
text_of_cause NoName = codes "noname"
text_of_cause NoLabel = codes "nolabel"
text_of_cause NoMain = codes "nomain"
text_of_cause TooMany = codes "toomany"
