use Rattle.gc_pacer.specs.Paces.{AreIdle}
use Rattle.gc_pacer.proofs.noting.idle_paces.Given as goal

abbrev pub invariant-loop : goal.invariant-loop
invariant-loop l = AreIdle l.paces l.counter
