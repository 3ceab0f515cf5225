use Rattle.program_reader.proofs.Common.{◌≡◌, map, take, line_of}
use Rattle.program_reader.proofs.loops.lines_on.Given as goal

abbrev pub invariant-loop-instr : goal.invariant-loop-instr
invariant-loop-instr l = l.code ≡ map (λ i. line_of i l.number) (take l.instr-index l.instrs)
