use Rattle.turn_entries.proofs.Common.{sym, subst, ComesNext}
use Rattle.turn_entries.proofs.Turning.{follows_paid}
use Rattle.turn_entries.proofs.run.Run.paid.Goals as goal

pub returns : goal.returns
returns g c = λ w k kind I on met B E all halted.
    c.entered.ensures w k c.args.ready kind E halted (λ goes. subst (ComesNext w (g.P.EntryCalls.value c.args.self.now.paced) k c.args.ready) (sym c.next_after-next.ensures) (follows_paid w (g.P.EntryCalls.value c.args.self.now.paced) k c.args.ready I on met B all E.enters.program goes))
