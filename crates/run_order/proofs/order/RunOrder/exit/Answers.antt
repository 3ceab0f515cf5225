use Rattle.run_order.proofs.Common.{◌≡◌, Some, subst, arith, WalkValue, exit_of}
use Rattle.run_order.proofs.Orders.{found_exit}
use Rattle.run_order.proofs.order.RunOrder.exit.Goals as goal

pub returns-then-second-self-clause-value : goal.returns-then-second-self-clause-value
returns-then-second-self-clause-value c =
    subst (λ (v : WalkValue). Some c.exit.result ≡ exit_of v c.args.u c.args.v) c.self.view_is
    (found_exit c.self.inside.walk.now c.self.invariant.1 c.args.u c.args.v c.exit.result (omega (arith, c.self.invariant.0)) (omega (arith, c.self.invariant.0)) c.exit.ensures.is)
