use Rattle.log_groups.proofs.Exact.{exact}
use Rattle.log_groups.proofs.laws.groups_are_exact.Goals as goal

pub returns : goal.returns
returns c = exact
