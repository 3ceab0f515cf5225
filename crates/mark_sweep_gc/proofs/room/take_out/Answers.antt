use Rattle.mark_sweep_gc.proofs.Common.{get_or, arith, contains, Addr}
use Rattle.mark_sweep_gc.specs.MarkingValue.{same_address}
use Rattle.mark_sweep_gc.proofs.Emptied as emptied
use Rattle.mark_sweep_gc.proofs.room.take_out.Goals as goal

abbrev none : Addr
none = record { chunk = 0; offset = 0 }

pub loop-address-init : goal.loop-address-init
loop-address-init c = emptied.at_first c.args.found.now (contains same_address c.args.known.now) c.requires

pub loop-address-preserved : goal.loop-address-preserved
loop-address-preserved c =
    emptied.taken_out c.args.found.now c.loop-address.address-index none (contains same_address c.loop-address.known) (contains same_address c.remove.new.self) c.loop-address-test.true
    c.loop-address.invariant (λ a. c.remove.ensures.updates.0 a)

pub returns : goal.returns
returns c = emptied.at_last c.args.found.now c.loop-address.address-index (contains same_address c.loop-address.known) (omega arith) c.loop-address.invariant
