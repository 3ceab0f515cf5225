use Rattle.log_strands.proofs.Common.{◌∙◌, sym}
use Rattle.log_strands.proofs.Sieved.{line_kept, line_left_out}
use Rattle.log_strands.proofs.acts_by.act_by.Goals as goal

pub returns-then-begins_with : goal.returns-then-begins_with
returns-then-begins_with c = c.act_in.ensures ∙ line_kept c.args.letters.now c.args.line.now (sym c.begins_with.ensures ∙ c.if-begins_with.true)

pub returns-else-begins_with : goal.returns-else-begins_with
returns-else-begins_with c = line_left_out c.args.letters.now c.args.line.now (sym c.begins_with.ensures ∙ c.if-begins_with.false)
