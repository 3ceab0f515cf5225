use Rattle.shared_image.proofs.Common.{◌≡◌, accounts}
use Rattle.heap_reading.specs.below.hh_model.{owner_of}
use Rattle.shared_image.proofs.tasks_and_chunks.owner_now.Given as goal

abbrev pub invariant-loop-tree : goal.invariant-loop-tree
invariant-loop-tree l = owner_of (accounts l.shared).machine.tasks l.owner ≡ owner_of (accounts l.shared).machine.tasks l.task

abbrev pub decreases-loop-tree : goal.decreases-loop-tree
decreases-loop-tree l = l.owner
