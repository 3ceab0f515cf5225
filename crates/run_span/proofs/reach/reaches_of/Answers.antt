use Rattle.run_span.proofs.Common.{◌≡◌, ◌+◌, ◌<◌, ◌≤◌, ◌^◌, ℕ, length, get_or, slice_get, Some, replicate, [], sum, ap, sym, subst, ◌∙◌, arith, rules, sum_by, sum_by_more_le, slice_get-get_or, tasks_in, strand, Reaches, reach_before, entered, AreReachesOf}
use Rattle.run_span.proofs.Reaching.{IsReaching, total, reaching_start, reaching_step, reaching_end, before_bound}
use Rattle.run_span.proofs.reach.reaches_of.Goals as goal

pub loop-place-init : goal.loop-place-init
loop-place-init c =
    let tasks = tasks_in c.args.tasks.now in
    let n = length c.args.tasks.now in
    let start : c.in_ok-reaches.reaches ≡ record { all = []; latest = replicate c.len.result 0 } = c.in_ok-reaches.ensures in
    let size : c.len.result ≡ n = c.len.ensures in
    let all : c.in_ok-reaches.reaches ≡ record { all = []; latest = replicate n 0 } = start ∙ ap (λ k. record { all = []; latest = replicate k 0 }) size in
    subst (IsReaching tasks n c.args.order.now c.args.weights.now 0) (sym all) (reaching_start tasks n c.args.order.now c.args.weights.now)

pub overflow_add-reach : goal.overflow_add-reach
overflow_add-reach c =
    let order = c.args.order.now in
    let weights = c.args.weights.now in
    let e = c.loop-place.place in
    let lt : e < length weights = omega (arith, c.loop-place-test.true, c.requires.weighed) in
    let bound = before_bound (tasks_in c.args.tasks.now) (length c.args.tasks.now) order weights e c.loop-place.reaches (get_or order e (strand 0 0)) c.loop-place.invariant in
    let most : total weights e + get_or weights e 0 ≤ sum weights = sum_by_more_le (λ x. x) weights e 0 lt in
    omega (arith, bound, most, c.reach_before.ensures, c.requires.fits)

pub loop-place-preserved : goal.loop-place-preserved
loop-place-preserved c =
    let tasks = tasks_in c.args.tasks.now in
    let order = c.args.order.now in
    let weights = c.args.weights.now in
    let e = c.loop-place.place in
    let u = get_or order e (strand 0 0) in
    let lt : e < length weights = omega (arith, c.loop-place-test.true, c.requires.weighed) in
    let step = reaching_step c.args.tasks.now order weights c.requires.some c.requires.nested c.requires.below c.requires.order c.requires.weighed e c.loop-place.reaches c.loop-place.invariant
    u (get_or weights e 0) (slice_get-get_or order e (strand 0 0) c.loop-place-test.true) (slice_get-get_or weights e 0 lt) in
    subst (IsReaching tasks (length c.args.tasks.now) order weights (e + 1))
    (sym (c.in_ok-enter.ensures ∙ ap (λ y. entered c.loop-place.reaches u (y + get_or weights e 0)) c.reach_before.ensures)) step

pub returns : goal.returns
returns c =
    let order = c.args.order.now in
    let end : c.loop-place.place ≡ length order = omega (arith, c.loop-place-test.false, c.loop-place.auto.place-end) in
    reaching_end (tasks_in c.args.tasks.now) (length c.args.tasks.now) order c.args.weights.now c.loop-place.reaches
    (subst (λ (e : ℕ). IsReaching (tasks_in c.args.tasks.now) (length c.args.tasks.now) order c.args.weights.now e c.loop-place.reaches) end c.loop-place.invariant)
