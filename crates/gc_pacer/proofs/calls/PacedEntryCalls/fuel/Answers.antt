use Rattle.gc_pacer.proofs.Common.{ap, subst, ◌∙◌, SharedValue, EndsForFuel, Pacer}
use Rattle.gc_pacer.proofs.Idle.{lent_kept}
use Rattle.gc_pacer.proofs.Noted.{fuel_kept}
use Rattle.gc_pacer.proofs.calls.PacedEntryCalls.fuel.Goals as goal

pub returns : goal.returns
returns c = subst (λ (z : SharedValue). EndsForFuel z c.fuel.new.self c.args.worker c.fuel.result) (ap (λ (z : Pacer). z.counted) c.get_mut-pacer.ensures.value ∙ c.self.view_is) c.fuel.ensures

pub invariant_of-self : goal.invariant_of-self
invariant_of-self c = fuel_kept c.get_mut-pacer.result.now.counted c.fuel.new.self c.args.worker c.get_mut-pacer.result.now.paces c.fuel.result c.stands.ensures (lent_kept c.get_mut-pacer.result.now c.self.inside.pacer c.get_mut-pacer.ensures.value c.self.invariant) c.fuel.ensures.refused c.fuel.ensures.same c.fuel.ensures.enters
