use Rattle.image_check.proofs.Common.{sym, subst, HasParent, IsParentAt}
use Rattle.image_check.proofs.Linked.{parent_answer}
use Rattle.image_check.proofs.tasks.ImageTasks.parent_place.Goals as goal

pub returns-in-Some : goal.returns-in-Some
returns-in-Some c =
    subst (λ m. IsParentAt c.args.self.now m c.place.result) (sym c.in-Some.is)
    (parent_answer c.args.self.now c.in-Some.number c.place.result (subst (HasParent c.args.self.now) c.in-Some.is c.requires) c.place.ensures)
