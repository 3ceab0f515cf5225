use Rattle.shared_tree.proofs.Common.{◌+◌, nat_le, ap, ap₂, sym, subst, ◌∙◌, is_pool_enough, Private, SharedValue, accounts, IsOutPart, take_by, WorkerPartFits, enough_is, the_view}
use Rattle.shared_tree.proofs.shared.Shared.pool_enough.Goals as goal

pub returns : goal.returns
returns c =
    let w : SharedValue = the_view c.self.inside in
    let p : Private = c.args.part.now in
    let held : IsOutPart w p = subst (λ (z : SharedValue). IsOutPart z p) (sym c.self.view_is) c.requires.out in
    let F : WorkerPartFits w held.0 (record p { fresh = 0 }) = subst (λ n. WorkerPartFits w held.0 (record p { fresh = n })) c.requires.fresh held.1 in
    ap₂ (λ a b. nat_le a b) (ap₂ (λ a b. a + b) c.in_use-used.ensures.units (c.chunks_for.ensures.take ∙ ap take_by c.small_words-words.ensures)) c.chunks.ensures.value
    ∙ (enough_is w held.0 p c.self.invariant F ∙ ap (λ (z : SharedValue). is_pool_enough z.settings (accounts z) p.task) c.self.view_is)
