use Rattle.shared_image.proofs.Common.{◌<◌, AreAll, InUseBefore, IsInUse}
use Rattle.shared_image.proofs.tasks_and_chunks.chunk_list.Given as goal

abbrev pub invariant-loop-number : goal.invariant-loop-number
invariant-loop-number l = AreAll InUseBefore (λ c. IsInUse l.shared c × (c.number < l.number)) l.chunks
