use Rattle.fork_graph.proofs.Common.{◌≡◌, ◌+◌, ◌<◌, ◌∷◌, ◌++◌, [], ◌∙◌, ap, sym, subst, rules, arith, length, false, replicate, refl, length-append, SpawnSearch, tasks_in, spawned_by, meet, meet_children}
use Rattle.fork_graph.proofs.SpawnSearch.{IsSearched, Meets, left, search_start, search_step, search_end, children_meet}
use Rattle.fork_graph.proofs.reached.reached_tasks.Goals as goal

pub loop-task-init : goal.loop-task-init
loop-task-init c =
    let n = length c.args.tasks.now in
    let start : c.in_ok-search.search ≡ record { met = replicate c.len.result false; waiting = [] } = search rules in
    let size : c.len.result ≡ n = search rules in
    let met : c.meet.new.self ≡ meet c.in_ok-search.search 0 = c.in_ok-meet.ensures in
    let all : c.meet.new.self ≡ meet (record { met = replicate n false; waiting = [] }) 0 =
    met ∙ (ap (λ (s : SpawnSearch). meet s 0) start ∙ ap (λ k. meet (record { met = replicate k false; waiting = [] }) 0) size) in
    subst (IsSearched (tasks_in c.args.tasks.now) n) (sym all) (search_start (tasks_in c.args.tasks.now) n)

pub loop-task-preserved : goal.loop-task-preserved
loop-task-preserved c =
    let t = c.in-Some.task in
    let popped : SpawnSearch = record { met = c.loop-task.search.met; waiting = c.pop.new.self } in
    let pushed : c.loop-task.search.waiting ≡ c.pop.new.self ++ t ∷ [] = search rules in
    let same : c.follow.new.self ≡ meet_children popped (tasks_in c.args.tasks.now t) = c.in_ok-follow.ensures in
    search_step (tasks_in c.args.tasks.now) (length c.args.tasks.now) t c.loop-task.search popped c.follow.new.self refl pushed
    (subst (λ (s : SpawnSearch). Meets (spawned_by (tasks_in c.args.tasks.now t)) popped s) (sym same) (children_meet (tasks_in c.args.tasks.now t) popped))
    c.loop-task.invariant

pub loop-task-smaller : goal.loop-task-smaller
loop-task-smaller c =
    let t = c.in-Some.task in
    let popped : SpawnSearch = record { met = c.loop-task.search.met; waiting = c.pop.new.self } in
    let pushed : c.loop-task.search.waiting ≡ c.pop.new.self ++ t ∷ [] = search rules in
    let size : length c.loop-task.search.waiting ≡ length c.pop.new.self + 1 = ap length pushed ∙ length-append c.pop.new.self (t ∷ []) in
    let same : left c.follow.new.self ≡ left (meet_children popped (tasks_in c.args.tasks.now t)) = ap left c.in_ok-follow.ensures in
    let kept : left (meet_children popped (tasks_in c.args.tasks.now t)) ≡ left popped = (children_meet (tasks_in c.args.tasks.now t) popped).weight in
    let less : left c.follow.new.self < left c.loop-task.search = omega arith in
    less

pub returns : goal.returns
returns c =
    let over : c.loop-task.search.waiting ≡ [] = search rules in
    search_end c.args.tasks.now c.loop-task.search over c.loop-task.invariant
