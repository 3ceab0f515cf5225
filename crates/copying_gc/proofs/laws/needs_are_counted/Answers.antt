use Rattle.copying_gc.proofs.Needs as needs
use Rattle.copying_gc.proofs.laws.needs_are_counted.Goals as goal

pub returns : goal.returns
returns c = needs.needs_are_counted
