use Rattle.log_walk.proofs.Common.{◌≡◌, Some, sym, subst, ◌∙◌, false≢true, up_from, far_at, tasks_in, IsAncestor, task_at, IsNextUp}
use Rattle.log_walk.proofs.Climbs.{far_up, parent_up}
use Rattle.log_walk.proofs.tables.next_up.Goals as goal

pub returns-then-not-is_above-clause-next : goal.returns-then-not-is_above-clause-next
returns-then-not-is_above-clause-next c =
    let rows = c.args.tasks.now in
    let t = c.args.tables.now in
    let is : c.link-link.result.far ≡ far_at t.links.items c.args.at = c.link-link.ensures.far in
    subst (IsNextUp rows t c.args.at c.args.target) (sym is)
    (far_up rows t c.requires.tables c.args.at c.args.target c.requires.at c.requires.target c.requires.apart
    (λ up. false≢true (c.if-not-is_above.ensures.1 (subst (λ f. IsAncestor (tasks_in rows) (task_at t.order f) (task_at t.order c.args.target)) (sym is) up))))

pub returns-in-Some-clause-next : goal.returns-in-Some-clause-next
returns-in-Some-clause-next c =
    let t = c.args.tables.now in
    let linked : up_from t.links.items c.args.at ≡ Some c.in-Some.parent = sym c.link-link.ensures.parent ∙ c.in-Some.is in
    parent_up c.args.tasks.now t c.requires.tables c.args.at c.args.target c.in-Some.parent c.requires.at linked
    (λ up. false≢true (c.if-not-is_above-2.ensures.1 up))
