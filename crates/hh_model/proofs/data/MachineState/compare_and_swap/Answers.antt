use Rattle.hh_model.proofs.Common.{slice_get, Cas}
use Rattle.hh_model.proofs.Acts.{as_found}
use Rattle.hh_model.proofs.data.MachineState.compare_and_swap.Goals as goal

pub returns : goal.returns
returns c =
    as_found c.args.self.now c.swap_found.new.self c.args.t c.args.line (slice_get c.args.self.now.tasks c.args.t) (Cas c.args.target c.args.object c.args.index c.args.expected c.args.value) _
    (c.reference_place-found.ensures.swap c.args.target c.args.expected c.args.value) c.swap_found.ensures
