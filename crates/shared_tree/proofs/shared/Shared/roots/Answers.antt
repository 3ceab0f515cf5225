use Rattle.shared_tree.proofs.Common.{◌≡◌, ℕ, None, ap, sym, subst, ◌∙◌, Private, SharedValue, accounts, WorkerPartFits, the_view}
use Rattle.entry_calls.proofs.below.core_invariant.{are_fields}
use Rattle.shared_tree.proofs.shared.Shared.roots.Goals as goal

pub targets-requires : goal.targets-requires
targets-requires c =
    let w : SharedValue = the_view c.self.inside in
    let p : Private = c.args.part.now in
    let k : ℕ = c.requires.fits.0 in
    let F : WorkerPartFits w k p = subst (λ (z : SharedValue). WorkerPartFits z k p) (sym c.self.view_is) c.requires.fits.1 in
    let F0 : WorkerPartFits w k (record p { fresh = 0 }) = subst (λ n. WorkerPartFits w k (record p { fresh = n })) c.requires.fresh F in
    let on : (accounts w).end ≡ None = ap (λ (z : SharedValue). (accounts z).end) c.self.view_is ∙ c.requires.goes in
    are_fields w k p c.self.invariant F0 on
