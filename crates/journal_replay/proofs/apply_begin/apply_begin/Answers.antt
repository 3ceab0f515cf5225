use Rattle.journal_replay.proofs.HoldingCauses.{begin_apart}
use Rattle.journal_replay.proofs.Making.{apart_made}
use Rattle.journal_replay.proofs.apply_begin.apply_begin.Goals as goal

pub returns-in-Err : goal.returns-in-Err
returns-in-Err g c =
    apart_made (g.S.LegalCalls.value c.args.shared.now) c.args.worker _ c.args.holding c.in-Err.apart.holding c.in-Err.apart.cause c.made.result c.made.ensures c.in-Err.ensures.back c.requires.holds
    (begin_apart (g.S.LegalCalls.value c.args.shared.now) c.args.worker c.stands.ensures c.requires.first c.args.t c.args.holding c.in-Err.apart.cause c.requires.holds c.in-Err.ensures.cause)
