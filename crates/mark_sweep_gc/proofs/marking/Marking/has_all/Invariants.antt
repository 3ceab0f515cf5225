use Rattle.mark_sweep_gc.proofs.Common.{◌≡◌, All, take, true, has_address}
use Rattle.mark_sweep_gc.proofs.marking.Marking.has_all.Given as goal

abbrev pub invariant-loop-object : goal.invariant-loop-object
invariant-loop-object l = All (λ a. has_address l.self.found a ≡ true) (take l.object-index l.objects)
