use Rattle.image_check.proofs.Common.{◌∙◌, ap, sym, subst, has, with_new, ImageTasks, IsParentAt}
use Rattle.image_check.proofs.Linked.{put_answer}
use Rattle.image_check.proofs.tasks.ImageTasks.put.Goals as goal

pub invariant_of-self-2 : goal.invariant_of-self-2
invariant_of-self-2 c =
    (put_answer c.self.inside.table.entries c.self.inside.links.items c.self.invariant c.args.task.number c.args.task c.parent_place-parent.result
    (ap (λ (xs : ImageTasks). has xs c.args.task.number) c.self.view_is ∙ sym c.has.ensures ∙ c.if-has.false)
    (subst (λ (xs : ImageTasks). IsParentAt xs c.args.task.parent c.parent_place-parent.result) (sym c.self.view_is) c.parent_place-parent.ensures)
    c.insert.new.self.entries c.reserve.new.self.items c.push_reserved.new.self.items c.link_below-link.result
    c.in_ok-insert.ensures.entries
    c.link_below-link.ensures
    c.reserve.ensures.items
    c.push_reserved.ensures.items).0

pub returns : goal.returns
returns c =
    (put_answer c.self.inside.table.entries c.self.inside.links.items c.self.invariant c.args.task.number c.args.task c.parent_place-parent.result
    (ap (λ (xs : ImageTasks). has xs c.args.task.number) c.self.view_is ∙ sym c.has.ensures ∙ c.if-has.false)
    (subst (λ (xs : ImageTasks). IsParentAt xs c.args.task.parent c.parent_place-parent.result) (sym c.self.view_is) c.parent_place-parent.ensures)
    c.insert.new.self.entries c.reserve.new.self.items c.push_reserved.new.self.items c.link_below-link.result
    c.in_ok-insert.ensures.entries
    c.link_below-link.ensures
    c.reserve.ensures.items
    c.push_reserved.ensures.items).1 ∙ ap (λ (xs : ImageTasks). with_new xs c.args.task.number c.args.task) c.self.view_is
