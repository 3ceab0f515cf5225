use Rattle.log_strands.proofs.Common.{◌∙◌, ℕ, ap, sym, option_copied, strand}
use Rattle.log_strands.proofs.Noted.{past_is}
use Rattle.log_strands.proofs.places.strand_in_log.Goals as goal

pub returns-in-None : goal.returns-in-None
returns-in-None c =
    ap (λ (t : ℕ). strand t c.args.strand.index)
    (sym (past_is c.args.log.now.numbers c.args.strand.task (sym c.get.ensures ∙ ap option_copied c.in-None.is)))
