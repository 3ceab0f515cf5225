use Rattle.shared_tree.proofs.Common.{◌≡◌, ℕ, ◌+◌, ◌-◌, arith, [], ap, ap₂, sym, subst, ◌∙◌, FramesValue, with_next, with_reference, Private, IsSharedValue, SharedValue, GoesAlone, AsksAlone, asks_alone, alone_small, next_small, SetsReference, TellsOther, reference_goes, reference_world, the_view, refl}
use Rattle.shared_tree.proofs.StepsEntered.{along}
use Rattle.shared_tree.proofs.shared.Shared.enter_reference.Goals as goal

pub overflow_add-self-2 : goal.overflow_add-self-2
overflow_add-self-2 c =
    let asks = asks_alone c.self.view_is c.self.invariant c.requires.fits c.requires.shared c.requires.free in
    let small = alone_small asks in
    omega (arith, small.0, small.1)

pub alone_of-requires-clause-few : goal.alone_of-requires-clause-few
alone_of-requires-clause-few c =
    let asks = asks_alone c.self.view_is c.self.invariant c.requires.fits c.requires.shared c.requires.free in
    (alone_small asks).1

pub overflow_add-next : goal.overflow_add-next
overflow_add-next c =
    let asks = asks_alone c.self.view_is c.self.invariant c.requires.fits c.requires.shared c.requires.free in
    let small = next_small asks in
    let e = c.next-next.ensures in
    omega (arith, small, e)

pub invariant_of-self : goal.invariant_of-self
invariant_of-self c =
    let w : SharedValue = the_view c.self.inside in
    let p : Private = c.args.part.now in
    let k : ℕ = c.args.worker in
    let asks : AsksAlone w k p = asks_alone c.self.view_is c.self.invariant c.requires.fits c.requires.shared c.requires.free in
    let T : (n : ℕ) × TellsOther w p (SetsReference c.args.register c.args.value) n = subst (λ (z : SharedValue). (n : ℕ) × TellsOther z p (SetsReference c.args.register c.args.value) n) (sym c.self.view_is) c.requires.reads in
    along w k p p refl _ _ c.alone_of.ensures c.push_reserved.ensures (λ n j. IsSharedValue (record w { steps = n; journal = j }))
    (reference_world asks c.args.register c.args.value T.0 T.1 (record { items = []; room = w.journal.room - 1 }))

pub returns : goal.returns
returns c =
    let w : SharedValue = the_view c.self.inside in
    let p : Private = c.args.part.now in
    let k : ℕ = c.args.worker in
    let asks : AsksAlone w k p = asks_alone c.self.view_is c.self.invariant c.requires.fits c.requires.shared c.requires.free in
    let T : (n : ℕ) × TellsOther w p (SetsReference c.args.register c.args.value) n = subst (λ (z : SharedValue). (n : ℕ) × TellsOther z p (SetsReference c.args.register c.args.value) n) (sym c.self.view_is) c.requires.reads in
    let frames : c.set_next.new.self ≡ with_next (with_reference p.frames c.args.register c.args.value) (p.frames.top.next + 1) =
    c.set_next.ensures ∙ ap₂ (λ (s : FramesValue) n. with_next s (n + 1)) (c.set_reference.ensures ∙ ap (λ i. with_reference p.frames i c.args.value) c.index.ensures.value) c.next-next.ensures in
    subst (λ (z : SharedValue). GoesAlone z (record w { steps = w.steps + (p.fresh + 1); journal = c.push_reserved.new.self }) k p (record p { frames = c.set_next.new.self; fresh = 0 })) c.self.view_is
    (subst (λ (s : FramesValue). GoesAlone w (record w { steps = w.steps + (p.fresh + 1); journal = c.push_reserved.new.self }) k p (record p { frames = s; fresh = 0 })) (sym frames)
    (along w k p p refl _ _ c.alone_of.ensures c.push_reserved.ensures (λ n j. GoesAlone w (record w { steps = n; journal = j }) k p (record p { frames = with_next (with_reference p.frames c.args.register c.args.value) (p.frames.top.next + 1); fresh = 0 }))
    (reference_goes asks c.args.register c.args.value T.0 T.1 (record { items = []; room = w.journal.room - 1 }))))
