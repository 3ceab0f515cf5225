use Rattle.log_weights.proofs.Common.{◌∙◌, ap, acts_in, fitting}
use Rattle.log_weights.proofs.Lettered.{work_kept}
use Rattle.log_weights.proofs.sums.text_work.Goals as goal

pub returns : goal.returns
returns c = c.lettered_work.ensures ∙ ap fitting (work_kept (acts_in c.args.text.now))
