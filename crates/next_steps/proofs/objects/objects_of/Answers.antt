use Rattle.std.proofs.Common.{rules, arith}
use Rattle.next_steps.proofs.Machines.{few_objects}
use Rattle.next_steps.proofs.objects.objects_of.Goals as goal

pub returns-in-Some-clause-fits : goal.returns-in-Some-clause-fits
returns-in-Some-clause-fits c =
    let h = few_objects c.args.machine.now c.args.t c.in-Some.row.now c.reached.ensures c.requires (search rules) in
    let e = c.len.ensures in
    omega (arith, h, e)
