use Rattle.log_walk.proofs.Common.{◌≡◌, ◌<◌, ◌∷◌, ◌++◌, [], suc, ap, sym, subst, refl, rules, arith, length, tasks_in, first_of, levels_are_few, Walk, visited}
use Rattle.log_walk.proofs.Walking.{IsWalking, left, walk_start, walk_step, walk_end}
use Rattle.log_walk.proofs.order.serial_order.Goals as goal

pub loop-strand-init : goal.loop-strand-init
loop-strand-init c =
    let tasks = tasks_in c.args.tasks.now in
    let n = length c.args.tasks.now in
    let start : c.in_ok-walk.walk ≡ record { order = []; stack = first_of 0 ∷ [] } = search rules in
    subst (IsWalking tasks n) (sym start)
    (walk_start tasks n (levels_are_few tasks n c.requires.nested.fork_join c.requires.some c.requires.below))

pub loop-strand-preserved : goal.loop-strand-preserved
loop-strand-preserved c =
    let tasks = tasks_in c.args.tasks.now in
    let n = length c.args.tasks.now in
    let u = c.in-Some.strand in
    let popped : Walk = record { order = c.loop-strand.walk.order; stack = c.pop.new.self } in
    let pushed : c.loop-strand.walk.stack ≡ c.pop.new.self ++ u ∷ [] = search rules in
    subst (IsWalking tasks n) (sym c.in_ok-visit.ensures)
    (walk_step tasks n (levels_are_few tasks n c.requires.nested.fork_join c.requires.some c.requires.below) c.loop-strand.walk popped u refl pushed c.loop-strand.invariant).0

pub loop-strand-smaller : goal.loop-strand-smaller
loop-strand-smaller c =
    let tasks = tasks_in c.args.tasks.now in
    let n = length c.args.tasks.now in
    let u = c.in-Some.strand in
    let popped : Walk = record { order = c.loop-strand.walk.order; stack = c.pop.new.self } in
    let pushed : c.loop-strand.walk.stack ≡ c.pop.new.self ++ u ∷ [] = search rules in
    let step : suc (left tasks n (visited tasks popped u)) ≡ left tasks n c.loop-strand.walk =
    (walk_step tasks n (levels_are_few tasks n c.requires.nested.fork_join c.requires.some c.requires.below) c.loop-strand.walk popped u refl pushed c.loop-strand.invariant).1 in
    let same : left tasks n c.visit.new.self ≡ left tasks n (visited tasks popped u) = ap (left tasks n) c.in_ok-visit.ensures in
    let less : left tasks n c.visit.new.self < left tasks n c.loop-strand.walk = omega arith in
    less

pub returns : goal.returns
returns c =
    let over : c.loop-strand.walk.stack ≡ [] = search rules in
    walk_end (tasks_in c.args.tasks.now) (length c.args.tasks.now) c.loop-strand.walk over c.loop-strand.invariant
