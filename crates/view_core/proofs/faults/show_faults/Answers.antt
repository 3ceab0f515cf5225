use Rattle.view_core.proofs.Common.{ℕ, List, ◌∙◌, sym, subst, Result, IfOk-weaker, TextFault, Done, Says, SaysFaults}
use Rattle.view_core.proofs.faults.show_faults.Goals as goal

pub returns-in-Ok-Ok : goal.returns-in-Ok-Ok
returns-in-Ok-Ok c =
    subst (λ (r : Result (List ℕ) TextFault). SaysFaults r c.of_bytes.result) (sym c.in-Ok-Ok.field-0-is ∙ c.in-Ok-Ok.ensures)
    (subst (λ (x : List ℕ). Says Done x c.of_bytes.result) c.into_vec.ensures c.of_bytes.ensures)

pub returns-in-Ok-Err : goal.returns-in-Ok-Err
returns-in-Ok-Err c =
    IfOk-weaker c.refused.result _ _ (λ w h. subst (λ (r : Result (List ℕ) TextFault). SaysFaults r w) (sym c.in-Ok-Err.field-0-is ∙ c.in-Ok-Err.ensures) h) c.refused.ensures
