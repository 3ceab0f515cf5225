use Rattle.journal_replay.proofs.Common.{ap, refl, sym, ◌∙◌, Option, Some, Refused, Long}
use Rattle.journal_replay.proofs.Making.{stopped_part}
use Rattle.journal_replay.proofs.Standing.{too_long}
use Rattle.journal_replay.proofs.apply_ran.enter.Goals as goal

pub returns : goal.returns
returns g c = record {
  cause_is =
      too_long (g.S.LegalCalls.value c.args.shared.now) c.args.worker c.args.part c.args.paused c.args.steps c.stands.ensures c.requires.fits c.requires.idle c.requires.first c.requires.next c.requires.spent c.requires.within c.if-part-steps.false
      (λ e. c.if-most-steps.false (c.standing-most.ensures ∙ e)) c.requires.few
      ∙ ap (λ m. let o : Option Refused = Some (Long m) in o) (sym c.standing-most.ensures);
  same = refl;
  holds = stopped_part (g.S.LegalCalls.value c.args.shared.now) c.args.worker c.args.part c.requires.fits c.requires.idle;
}
