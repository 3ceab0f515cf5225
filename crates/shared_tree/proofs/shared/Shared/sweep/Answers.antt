use Rattle.std.proofs.Common.{refl, sym, ◌∙◌}
use Rattle.shared_tree.proofs.shared.Shared.sweep.Goals as goal

pub returns-in-Some : goal.returns-in-Some
returns-in-Some c = record { refused = sym c.in-Some.is ∙ c.sweep_refused.ensures; same = refl; enters = tt; fits = tt }

pub returns-in-None : goal.returns-in-None
returns-in-None c = record { refused = sym c.in-None.is ∙ c.sweep_refused.ensures; same = tt; enters = c.enter_sweep.ensures.enters; fits = c.enter_sweep.ensures.fits }
