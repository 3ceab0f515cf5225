use Rattle.journal_replay.proofs.Common.{subst, StandsTogether, WorldValue}
use Rattle.journal_replay.proofs.Together.{stands_together}
use Rattle.journal_replay.proofs.world.World.stands.Goals as goal

pub returns-clause-together : goal.returns-clause-together
returns-clause-together g c =
    let x : WorldValue = record { shared = g.S.LegalCalls.value c.self.inside.shared; holdings = c.self.inside.holdings; stopped = c.self.inside.stopped } in
    subst StandsTogether c.self.view_is (stands_together x c.stands.ensures c.self.invariant)
