use Rattle.program_reader.proofs.Common.{[], arith, lines_of, outline_of}
use Rattle.program_reader.proofs.FirstFaults.{is_first}
use Rattle.program_reader.proofs.laws.first_fault_is_first.Goals as goal

pub returns : goal.returns
returns c = λ text r some.
    let h = is_first (outline_of text) [] (lines_of text) r some in
    record { before = h.before; line = h.line; below = h.below; lines = h.lines; number = omega (arith, h.number); cause = h.cause; first = h.first }
