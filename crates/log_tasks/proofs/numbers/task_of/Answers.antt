use Rattle.std.proofs.Common.{arith, sym}
use Rattle.log_tasks.proofs.Ascending.{found_place, not_found, place_below, task_is, none_is}
use Rattle.log_tasks.proofs.numbers.task_of.Goals as goal

pub overflow_cast-result : goal.overflow_cast-result
overflow_cast-result c =
    let at = found_place c.args.numbers.now c.requires c.args.number c.in-Ok.task c.in-Ok.ensures.position in
    let le = place_below c.args.numbers.now c.requires c.in-Ok.task at.0 in
    let e = at.1 in
    omega (arith, le, e, c.ranges.number)

pub returns-in-Ok : goal.returns-in-Ok
returns-in-Ok c =
    let at = found_place c.args.numbers.now c.requires c.args.number c.in-Ok.task c.in-Ok.ensures.position in
    sym (task_is c.args.numbers.now c.requires c.args.number c.in-Ok.task at.0 at.1)

pub returns-in-Err : goal.returns-in-Err
returns-in-Err c = sym (none_is c.args.numbers.now c.requires c.args.number (not_found c.args.numbers.now c.requires c.args.number _ c.in-Err.ensures.position))

pub returns-then-is_own_place : goal.returns-then-is_own_place
returns-then-is_own_place c =
    let at = c.is_own_place.ensures c.if-is_own_place.true in
    sym (task_is c.args.numbers.now c.requires c.args.number c.args.number at.0 at.1)
