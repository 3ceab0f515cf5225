use Rattle.std.proofs.Common.{◌+◌, arith}
use Rattle.run_accounts.proofs.steps.join_three.Goals as goal

pub join-requires-clause-since : goal.join-requires-clause-since
join-requires-clause-since c =
    omega (arith, c.requires.since c.args.parent, c.requires.since c.args.left, c.requires.since (c.args.left + 1))
