use Rattle.image_check.proofs.Common.{◌≡◌, ◌+◌, length, references_cause}
use Rattle.image_check.proofs.References.{cause_from}
use Rattle.image_check.proofs.faults.cause_of_references.Given as goal

abbrev pub invariant-loop-rest : goal.invariant-loop-rest
invariant-loop-rest l = (cause_from l.whole l.read l.task l.object.address l.place l.crosses l.forgets l.rest ≡ references_cause l.whole l.read l.task l.object) × (l.place + length l.rest ≡ length l.object.references)

abbrev pub decreases-loop-rest : goal.decreases-loop-rest
decreases-loop-rest l = length l.rest
