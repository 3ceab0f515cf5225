use Rattle.task_machine.proofs.Common.{◌≡◌, ◌+◌, arith, ap, sym, subst, ◌∙◌, is_some, place_for, Plan, PlanIsReady}
use Rattle.task_machine.specs.declared.plan.Plan.TheVariants.{Pack}
use Rattle.task_machine.proofs.Spots.{alloc_ready}
use Rattle.task_machine.proofs.part.Private.decide_pack.Goals as goal

pub returns-clause-wide : goal.returns-clause-wide
returns-clause-wide c =
    let ints = c.sixteen.ensures.ints in
    let refs = c.sixteen.ensures.refs in
    (omega (arith, refs, c.count.ensures.value, c.count.ensures.within), omega (arith, ints, c.count-2.ensures.value, c.count-2.ensures.within))

pub returns-clause-ready : goal.returns-clause-ready
returns-clause-ready c =
    let part = c.args.self.now in
    let ints = c.sixteen.ensures.ints in
    let refs = c.sixteen.ensures.refs in
    let words : 2 + c.count.result + c.count-2.result ≡ 2 + c.args.refs + c.args.ints = omega (arith, c.count.ensures.value, c.count-2.ensures.value) in
    let P : Plan → Type 0 = λ q. PlanIsReady part q in
    subst P (sym c.allocating.ensures) (alloc_ready part (2 + c.count.result + c.count-2.result) (Pack c.args.target c.args.refs c.args.ints)
    (λ e. (omega (arith, refs, c.count.ensures.value, c.count.ensures.within), omega (arith, ints, c.count-2.ensures.value, c.count-2.ensures.within), ap (λ w. is_some (place_for part.heap w)) (sym words) ∙ e)))
