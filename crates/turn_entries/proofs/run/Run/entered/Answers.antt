use Rattle.turn_entries.proofs.Turning.{entered_goes}
use Rattle.turn_entries.proofs.run.Run.entered.Goals as goal

pub returns-else-has_ended : goal.returns-else-has_ended
returns-else-has_ended g c = λ w k ready kind E on follows. entered_goes w (g.P.EntryCalls.value c.args.self.now.paced) k ready kind c.args.next c.has_ended.result c.stands.ensures.stands c.has_ended.ensures c.if-has_ended.false E on follows
