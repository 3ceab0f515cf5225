-- Compare and swaps in a program.
use Rattle.std.specs.Prelude.{Bool, true, false}
use Rattle.std.specs.List.{list_any}
use Rattle.hh_lang.specs.declared.instr.Instr.{Instr}
use Rattle.hh_lang.specs.declared.instr.Instr.TheVariants.{Cas}
use Rattle.hh_lang.specs.declared.program.Line.{Line}
use Rattle.hh_lang.specs.declared.program.Fun.{Fun}
use Rattle.hh_lang.specs.Form.{ProgramText}

abbrev pub swaps : Instr → Bool
swaps (Cas d o k e v) = true
swaps _ = false

abbrev pub is_swap : Line → Bool
is_swap l = swaps l.instr

abbrev pub code_has_swap : Fun → Bool
code_has_swap f = list_any is_swap f.code

abbrev pub has_swaps : ProgramText → Bool
has_swaps p = list_any code_has_swap p.functions
