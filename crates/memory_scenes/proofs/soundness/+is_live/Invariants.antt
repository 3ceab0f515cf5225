use Rattle.std.proofs.Common.{length}
use Rattle.memory_scenes.proofs.soundness.+is_live.Given as goal

abbrev pub decreases-is_live : goal.decreases-is_live
decreases-is_live l = length l.chunks.now
