use Rattle.std.proofs.Common.{◌≡◌, rules, slice_get, None}
use Rattle.run_span.proofs.Reaching.{none_there}
use Rattle.run_span.proofs.reach.Reaches.latest_of.Goals as goal

pub returns-in-None : goal.returns-in-None
returns-in-None c =
    let none : slice_get c.args.self.now.latest c.args.task ≡ None = search rules in
    none_there c.args.self.now.latest c.args.task none
