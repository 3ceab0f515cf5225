use Rattle.std.proofs.Common.{refl, sym, ◌∙◌}
use Rattle.shared_tree.proofs.shared.Shared.put_off.Goals as goal

pub returns-in-Some : goal.returns-in-Some
returns-in-Some c = record { refused = sym c.in-Some.is ∙ c.put_off_refused.ensures; same = refl; back = refl; part = tt; enters = tt; fits = c.requires.fits; others = tt }

pub returns-in-None : goal.returns-in-None
returns-in-None c = record {
  refused = sym c.in-None.is ∙ c.put_off_refused.ensures;
  same = tt;
  back = tt;
  part = c.enter_put_off.ensures.part;
  enters = c.enter_put_off.ensures.enters;
  fits = c.enter_put_off.ensures.fits;
  others = c.enter_put_off.ensures.others;
}
