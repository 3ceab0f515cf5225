use Rattle.journal_replay.proofs.Common.{ap, sym, ◌∙◌, Private}
use Rattle.journal_replay.proofs.Making.{stopped_part}
use Rattle.journal_replay.proofs.apply_ran.enter_private.Goals as goal

pub returns-in-Err : goal.returns-in-Err
returns-in-Err g c = record {
  cause_is = sym c.in-Err.ensures.refused;
  same = c.in-Err.ensures.same;
  holds = stopped_part (g.S.LegalCalls.value c.ran_private.new.self) c.args.worker c.ran_private.new.part c.ran_private.ensures.fits (ap (λ (z : Private). z.begun) c.in-Err.ensures.back ∙ c.requires.idle);
}
