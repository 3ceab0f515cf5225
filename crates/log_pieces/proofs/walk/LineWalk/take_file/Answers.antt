use Rattle.std.proofs.Common.{◌∙◌, ap, sym, Some}
use Rattle.log_pieces.proofs.OverFiles.{first_bad, then_found, then_after, then_pieces}
use Rattle.log_pieces.proofs.walk.LineWalk.take_file.Goals as goal

pub returns-in-Some-first_fault-clause-found : goal.returns-in-Some-first_fault-clause-found
returns-in-Some-first_fault-clause-found c = λ before k.
    ap Some c.found-in-Some-first_fault.ensures ∙ first_bad c.args.text.now c.in-Some.end c.in-Some.ensures c.args.self.now.file before c.in-Some-first_fault.fault (sym c.in-Some-first_fault.is ∙ c.first_fault.ensures)

pub returns-in-None-clause-found : goal.returns-in-None-clause-found
returns-in-None-clause-found c = then_found c.args.self.now c.args.text.now c.in-Some.end c.in-Some.ensures (sym c.in-None.is ∙ c.first_fault.ensures) c.take_lines.result c.take_lines.ensures.found

pub returns-in-None-clause-after : goal.returns-in-None-clause-after
returns-in-None-clause-after c = then_after c.args.self.now c.args.text.now c.in-Some.end c.in-Some.ensures (sym c.in-None.is ∙ c.first_fault.ensures) c.take_lines.result c.take_lines.new.self c.take_lines.ensures.after

pub returns-in-None-clause-pieces : goal.returns-in-None-clause-pieces
returns-in-None-clause-pieces c = then_pieces c.args.self.now c.args.text.now c.in-Some.end c.in-Some.ensures (sym c.in-None.is ∙ c.first_fault.ensures) c.take_lines.result c.take_lines.new.self c.take_lines.ensures.pieces
