use Rattle.journal_replay.proofs.Common.{false, subst, sym, ◌∙◌, WorkerHolds}
use Rattle.journal_replay.proofs.HoldingCauses.{copied_refused}
use Rattle.journal_replay.proofs.Making.{apart_made, miscounts}
use Rattle.journal_replay.proofs.apply_end.apply_end.Goals as goal

pub returns-in-Err : goal.returns-in-Err
returns-in-Err g c =
    apart_made (g.S.LegalCalls.value c.args.shared.now) c.args.worker _ c.args.holding c.in-Err.apart.holding c.in-Err.apart.cause c.made.result c.made.ensures c.in-Err.ensures.back c.requires.holds
    (copied_refused (g.S.LegalCalls.value c.args.shared.now) c.args.worker c.stands.ensures c.requires.first c.args.t c.args.taken c.args.given c.args.left c.args.holding c.in-Err.apart.cause c.requires.holds c.in-Err.ensures.cause)

pub returns-in-Some : goal.returns-in-Some
returns-in-Some g c =
    let holds = subst (WorkerHolds (g.S.LegalCalls.value c.args.shared.now) false c.args.worker) c.in-Ok.ensures.holding c.requires.holds in
    miscounts (g.S.LegalCalls.value c.args.shared.now) c.args.worker c.stands.ensures c.requires.first c.args.t c.in-Ok.part c.in-Ok.moved c.args.taken c.args.given c.args.left c.in-Some.cause holds c.in-Ok.ensures.task (sym c.miscounted.ensures ∙ c.in-Some.is)
