use Rattle.steal_scheduler.proofs.Rules.{admits}
use Rattle.steal_scheduler.proofs.theft.Theft.new.Goals as goal

pub new-requires : goal.new-requires
new-requires c = admits
