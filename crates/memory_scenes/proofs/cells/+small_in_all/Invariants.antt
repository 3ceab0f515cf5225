use Rattle.std.proofs.Common.{length}
use Rattle.memory_scenes.proofs.cells.+small_in_all.Given as goal

abbrev pub decreases-small_in_all : goal.decreases-small_in_all
decreases-small_in_all l = length l.chunks.now
