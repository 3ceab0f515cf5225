use Rattle.std.proofs.Common.{None, Some, ap, ◌∙◌}
use Rattle.program_reader.proofs.Counts.{IsRead, small, unread}
use Rattle.program_reader.proofs.operands.read_field_count.Goals as goal

pub returns-in_err-count : goal.returns-in_err-count
returns-in_err-count c = c.from_residual.ensures ∙ (let h : IsRead c.args.word.now None = c.in_err-count.ensures in unread c.args.word.now h)

pub returns-then-count-le16 : goal.returns-then-count-le16
returns-then-count-le16 c = ap Some c.new.ensures ∙ (let h : IsRead c.args.word.now (Some c.in_ok-count.count) = c.in_ok-count.ensures in small c.args.word.now c.in_ok-count.count h c.if-count-le16.true)
