use Rattle.std.proofs.Common.{◌<◌, length, arith}
use Rattle.text_lines.proofs.Runs.{lines_first, lines_last}
use Rattle.log_lines.proofs.ends.next_line.Goals as goal

pub returns-then-end-text-clause-lines : goal.returns-then-end-text-clause-lines
returns-then-end-text-clause-lines c = lines_last c.args.text.now c.line_end-end.result c.line_end-end.ensures.end c.if-end-text.true

pub returns-clause-lines : goal.returns-clause-lines
returns-clause-lines c =
    let lt : c.line_end-end.result < length c.args.text.now = omega (arith, c.line_end-end.ensures.within, c.if-end-text.false) in
    lines_first c.args.text.now c.line_end-end.result c.line_end-end.ensures.end lt
