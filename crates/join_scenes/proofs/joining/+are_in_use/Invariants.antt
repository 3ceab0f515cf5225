use Rattle.std.proofs.Common.{length}
use Rattle.join_scenes.proofs.joining.+are_in_use.Given as goal

abbrev pub decreases-are_in_use : goal.decreases-are_in_use
decreases-are_in_use l = length l.chunks.now
