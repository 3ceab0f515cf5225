use Rattle.command_core.proofs.Common.{Some, sym, ap, subst, ◌∙◌, IfErr-weaker, IfOk-weaker, SharedValue, accounts, remains_of, IsReplayedRun}
use Rattle.command_core.proofs.run.answer_left.Goals as goal

pub answer_ended-requires : goal.answer_ended-requires
answer_ended-requires c = ap (λ (w : SharedValue). (accounts w).end) c.into_shared-in-Some-ended.ensures.same ∙ (sym c.ended.ensures ∙ c.in-Some-ended.is)

pub returns-in-Some-ended-clause-answer : goal.returns-in-Some-ended-clause-answer
returns-in-Some-ended-clause-answer c =
    IfOk-weaker c.answer_ended.result _ _
    (λ a h. (c.in-Some.paced, c.in-Some.is, subst (λ (w : SharedValue). IsReplayedRun w.program w.settings c.args.extras w.journal.items a) c.into_shared-in-Some-ended.ensures.same h)) c.answer_ended.ensures.answer

pub returns-in-Some-ended-clause-wanted : goal.returns-in-Some-ended-clause-wanted
returns-in-Some-ended-clause-wanted c =
    IfErr-weaker c.answer_ended.result _ _ (λ w h. h ∙ (ap (λ (z : SharedValue). remains_of (Some z)) c.into_shared-in-Some-ended.ensures.same ∙ ap remains_of (sym c.in-Some.is))) c.answer_ended.ensures.wanted

pub returns-in-None-clause-wanted : goal.returns-in-None-clause-wanted
returns-in-None-clause-wanted c = c.amid.ensures.amid ∙ (ap (λ (z : SharedValue). remains_of (Some z)) c.into_shared.ensures.same ∙ ap remains_of (sym c.in-Some.is))
