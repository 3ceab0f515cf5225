use Rattle.std.proofs.Common.{length}
use Rattle.join_scenes.proofs.joining.+are_all_apart.Given as goal

abbrev pub decreases-are_all_apart : goal.decreases-are_all_apart
decreases-are_all_apart l = length l.left.now
