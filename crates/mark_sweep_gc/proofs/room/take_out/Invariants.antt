use Rattle.mark_sweep_gc.proofs.Common.{◌≡◌, Contains, drop, true, contains, Addr}
use Rattle.mark_sweep_gc.specs.MarkingValue.{same_address}
use Rattle.mark_sweep_gc.proofs.room.take_out.Given as goal

abbrev pub invariant-loop-address : goal.invariant-loop-address
invariant-loop-address l = (a : Addr) → contains same_address l.known a ≡ true → Contains (drop l.address-index l.found) a
