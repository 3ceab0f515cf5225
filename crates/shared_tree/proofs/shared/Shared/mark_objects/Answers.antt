use Rattle.std.proofs.Common.{refl, sym, ◌∙◌}
use Rattle.shared_tree.proofs.shared.Shared.mark_objects.Goals as goal

pub enter_marking-requires-clause-free : goal.enter_marking-requires-clause-free
enter_marking-requires-clause-free c = sym (c.marking_refused.ensures c.args.n) ∙ c.in-None.is

pub returns-in-Some : goal.returns-in-Some
returns-in-Some c = record { refused = sym c.in-Some.is ∙ c.marking_refused.ensures c.args.n; same = refl; count = tt; enters = tt; fits = tt }

pub returns-in-None : goal.returns-in-None
returns-in-None c = record {
  refused = sym c.in-None.is ∙ c.marking_refused.ensures c.args.n;
  same = tt;
  count = c.enter_marking.ensures.count;
  enters = c.enter_marking.ensures.enters;
  fits = c.enter_marking.ensures.fits;
}
