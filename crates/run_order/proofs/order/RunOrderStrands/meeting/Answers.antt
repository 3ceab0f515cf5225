use Rattle.run_order.proofs.Common.{◌<◌, length, ap, sym, subst, ◌∙◌, tasks_in, WalkValue, IsWalked, IsDepthAt}
use Rattle.run_order.specs.Order.{order_depth, run_order}
use Rattle.run_order.proofs.Orders.{found_depth}
use Rattle.run_order.proofs.order.RunOrderStrands.meeting.Goals as goal

pub depth-requires : goal.depth-requires
depth-requires c = subst (λ (v : WalkValue). c.in-Some.exit < length v.order) (sym c.self.view_is) c.in-Some.ensures.there

pub returns-in-Some : goal.returns-in-Some
unfolding run_order
returns-in-Some c =
    found_depth c.args.self.now (subst IsWalked c.self.view_is c.self.invariant.1) c.in-Some.exit c.depth.result c.in-Some.ensures.there
    (subst (λ (v : WalkValue). IsDepthAt (tasks_in v.tasks) v.order c.in-Some.exit c.depth.result) c.self.view_is c.depth.ensures)
    ∙ ap (order_depth c.args.self.now) c.in-Some.ensures.value

pub returns-in-None : goal.returns-in-None
unfolding run_order
returns-in-None c = ap (order_depth c.args.self.now) c.in-None.ensures.value
