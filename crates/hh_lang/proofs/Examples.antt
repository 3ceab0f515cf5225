-- A function from its instructions alone, for programs that are examples.
use Rattle.hh_lang.proofs.Common.{List, [], map, Instr, Fun}

abbrev pub fun : List Instr → Fun
fun code = record { name = []; code = map (λ i. record { instr = i; number = 1 }) code }
