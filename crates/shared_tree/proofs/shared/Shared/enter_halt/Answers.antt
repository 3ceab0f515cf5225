use Rattle.shared_tree.proofs.Common.{◌≡◌, ℕ, ◌-◌, Some, [], sym, subst, ended_by, step, Machine, Private, IsSharedValue, SharedValue, HaltsAlone, then_accounts, AsksAlone, asks_alone, alone_small, halt_world, halts_alone, the_view, refl, ◌+◌, arith}
use Rattle.shared_tree.proofs.StepsEntered.{along}
use Rattle.shared_tree.proofs.shared.Shared.enter_halt.Goals as goal

pub overflow_add-self-2 : goal.overflow_add-self-2
overflow_add-self-2 c =
    let asks = asks_alone c.self.view_is c.self.invariant c.requires.fits c.requires.shared c.requires.free in
    let small = alone_small asks in
    omega (arith, small.0, small.1)

pub alone_of-requires-clause-few : goal.alone_of-requires-clause-few
alone_of-requires-clause-few c =
    let asks = asks_alone c.self.view_is c.self.invariant c.requires.fits c.requires.shared c.requires.free in
    (alone_small asks).1

pub invariant_of-self : goal.invariant_of-self
invariant_of-self c =
    let w : SharedValue = the_view c.self.inside in
    let p : Private = c.args.part.now in
    let k : ℕ = c.args.worker in
    let asks : AsksAlone w k p = asks_alone c.self.view_is c.self.invariant c.requires.fits c.requires.shared c.requires.free in
    let is : step w.program (then_accounts w p).machine p.task ≡ ended_by (then_accounts w p).machine c.args.end = subst (λ (z : SharedValue). step z.program (then_accounts z p).machine p.task ≡ ended_by (then_accounts z p).machine c.args.end) (sym c.self.view_is) c.requires.ends in
    along w k p p refl _ _ c.alone_of.ensures c.push_reserved.ensures (λ n j. IsSharedValue (record w { steps = n; journal = j; end = Some (Machine c.args.end) }))
    (halt_world asks c.args.end c.requires.other is (record { items = []; room = w.journal.room - 1 }))

pub returns : goal.returns
returns c =
    let w : SharedValue = the_view c.self.inside in
    let p : Private = c.args.part.now in
    let k : ℕ = c.args.worker in
    let asks : AsksAlone w k p = asks_alone c.self.view_is c.self.invariant c.requires.fits c.requires.shared c.requires.free in
    let is : step w.program (then_accounts w p).machine p.task ≡ ended_by (then_accounts w p).machine c.args.end = subst (λ (z : SharedValue). step z.program (then_accounts z p).machine p.task ≡ ended_by (then_accounts z p).machine c.args.end) (sym c.self.view_is) c.requires.ends in
    subst (λ (z : SharedValue). HaltsAlone z (record w { steps = w.steps + (p.fresh + 1); journal = c.push_reserved.new.self; end = Some (Machine c.args.end) }) k p (record p { fresh = 0 })) c.self.view_is
    (along w k p p refl _ _ c.alone_of.ensures c.push_reserved.ensures (λ n j. HaltsAlone w (record w { steps = n; journal = j; end = Some (Machine c.args.end) }) k p (record p { fresh = 0 }))
    (halts_alone asks c.args.end c.requires.other is (record { items = []; room = w.journal.room - 1 })))
