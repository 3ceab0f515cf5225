use Rattle.std.proofs.Common.{refl, sym, ◌∙◌}
use Rattle.shared_tree.proofs.shared.Shared.took.Goals as goal

pub returns-in-Some : goal.returns-in-Some
returns-in-Some c = record { refused = sym c.in-Some.is ∙ c.took_refused.ensures; same = refl; enters = tt; task = tt; fresh = tt; heap = tt; idle = tt; fits = tt; others = tt }

pub returns-in-None : goal.returns-in-None
returns-in-None c = record {
  refused = sym c.in-None.is ∙ c.took_refused.ensures;
  same = tt;
  enters = c.give_task.ensures.enters;
  task = c.give_task.ensures.task;
  fresh = c.give_task.ensures.fresh;
  heap = c.give_task.ensures.heap;
  idle = c.give_task.ensures.idle;
  fits = c.give_task.ensures.fits;
  others = c.give_task.ensures.others;
}
