use Rattle.std.proofs.Common.{◌<◌, ◌-◌, length, take, drop, arith}
use Rattle.log_pieces.proofs.Whole.{feed_none, feed_some}
use Rattle.log_pieces.proofs.files.next_feed.Goals as goal

pub returns-then-end-rest : goal.returns-then-end-rest
returns-then-end-rest c = feed_none c.args.text.now c.args.at c.line_end-end.result c.line_end-end.ensures.end c.if-end-rest.true

pub returns-else-end-rest : goal.returns-else-end-rest
returns-else-end-rest c = feed_some c.args.text.now c.args.at c.line_end-end.result c.line_end-end.ensures.end (let lt : c.line_end-end.result < length (take (length c.args.text.now - c.args.at) (drop c.args.at c.args.text.now)) = omega (arith, c.line_end-end.ensures.within, c.if-end-rest.false) in lt)
