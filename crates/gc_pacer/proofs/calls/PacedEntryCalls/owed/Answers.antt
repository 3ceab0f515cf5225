use Rattle.gc_pacer.proofs.Common.{◌≡◌, None, ap, sym, subst, ◌∙◌, SharedValue, accounts, worker_pace, owed_by, KeepsPaces, Pacer}
use Rattle.gc_pacer.proofs.Idle.{lent_kept}
use Rattle.gc_pacer.proofs.calls.PacedEntryCalls.owed.Goals as goal

pub returns : goal.returns
returns c =
    let w : SharedValue = c.shared.result.now in
    let on : (accounts w).end ≡ None = subst (λ (z : SharedValue). (accounts z).end ≡ None) (sym c.shared.ensures) c.requires.goes in
    let K : KeepsPaces w c.get.result.now.paces =
    subst (λ (z : SharedValue). KeepsPaces z c.get.result.now.paces) (ap (λ (z : Pacer). z.counted) c.get.ensures ∙ (c.self.view_is ∙ sym c.shared.ensures)) (lent_kept c.get.result.now c.self.inside.pacer c.get.ensures c.self.invariant) in
    c.owed.ensures (worker_pace w c.args.worker) (K.keeps on c.args.worker c.at.result.now c.at.ensures) ∙ ap (λ (z : SharedValue). owed_by z c.args.worker) c.shared.ensures
