use Rattle.view_core.proofs.Common.{ℕ, List, subst, AnswerStatus, Says}
use Rattle.view_core.proofs.races.reply.Goals as goal

pub returns : goal.returns
returns c =
    subst (λ (s : AnswerStatus). Says s c.args.shown.text c.of_bytes.result) c.status_of_count.ensures
    (subst (λ (x : List ℕ). Says c.status_of_count.result x c.of_bytes.result) c.into_vec.ensures c.of_bytes.ensures)
