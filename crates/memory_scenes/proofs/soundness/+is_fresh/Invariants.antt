use Rattle.std.proofs.Common.{length}
use Rattle.memory_scenes.proofs.soundness.+is_fresh.Given as goal

abbrev pub decreases-is_fresh : goal.decreases-is_fresh
decreases-is_fresh l = length l.chunks.now
