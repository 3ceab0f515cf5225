use Rattle.run_order.proofs.Orders.{walks_have_an_order}
use Rattle.run_order.proofs.laws.walks_have_an_order.Goals as goal

pub returns : goal.returns
returns c = walks_have_an_order
