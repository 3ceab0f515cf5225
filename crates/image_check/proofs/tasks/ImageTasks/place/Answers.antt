use Rattle.image_check.proofs.Common.{◌≡◌, subst, None, MatchOption, found, ImageTasks, TaskStandsAt}
use Rattle.image_check.proofs.Linked.{place_answer}
use Rattle.image_check.proofs.tasks.ImageTasks.place.Goals as goal

pub returns : goal.returns
returns c =
    subst (λ (es : ImageTasks). MatchOption c.get_index_of.result (found es c.args.number ≡ None) (λ i. TaskStandsAt es i c.args.number)) c.self.view_is
    (place_answer c.self.inside.table.entries c.args.number c.get_index_of.result c.get_index_of.ensures.index c.get_index_of.ensures.found)
