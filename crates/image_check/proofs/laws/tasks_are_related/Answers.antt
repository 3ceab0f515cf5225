use Rattle.image_check.proofs.Ordered.{tasks_are_related}
use Rattle.image_check.proofs.laws.tasks_are_related.Goals as goal

pub returns : goal.returns
returns c = tasks_are_related
