use Rattle.shared_tree.proofs.Common.{◌≡◌, ℕ, ℤ, ◌+◌, ◌-◌, ◌++◌, ◌∷◌, arith, List, [], ap, sym, subst, ◌∙◌, w64, to_z-of_z, FramesValue, with_next, Private, Prints, IsSharedValue, SharedValue, GoesAlone, EndingTells, AsksAlone, asks_alone, alone_small, next_small, printed_goes, printed_world, the_view, refl}
use Rattle.shared_tree.proofs.StepsEntered.{along, entered}
use Rattle.shared_tree.proofs.shared.Shared.enter_output.Goals as goal

pub overflow_add-self-2 : goal.overflow_add-self-2
overflow_add-self-2 c =
    let asks = asks_alone c.self.view_is c.self.invariant c.requires.fits c.requires.shared c.requires.free in
    let small = alone_small asks in
    omega (arith, small.0, small.1)

pub alone_of-requires-clause-few : goal.alone_of-requires-clause-few
alone_of-requires-clause-few c =
    let asks = asks_alone c.self.view_is c.self.invariant c.requires.fits c.requires.shared c.requires.free in
    (alone_small asks).1

pub overflow_add-next : goal.overflow_add-next
overflow_add-next c =
    let asks = asks_alone c.self.view_is c.self.invariant c.requires.fits c.requires.shared c.requires.free in
    let small = next_small asks in
    let e = c.next-next.ensures in
    omega (arith, small, e)

pub invariant_of-self-2 : goal.invariant_of-self-2
invariant_of-self-2 c =
    let w : SharedValue = the_view c.self.inside in
    let p : Private = c.args.part.now in
    let k : ℕ = c.args.worker in
    let asks : AsksAlone w k p = asks_alone c.self.view_is c.self.invariant c.requires.fits c.requires.shared c.requires.free in
    let T : (n : ℕ) × EndingTells w p (Prints c.args.value) n = subst (λ (z : SharedValue). (n : ℕ) × EndingTells z p (Prints c.args.value) n) (sym c.self.view_is) c.requires.prints in
    along w k p p refl _ _ c.alone_of.ensures c.push_reserved.ensures (λ n j. IsSharedValue (record w { outputs = c.push.new.self; steps = n; journal = j }))
    (subst (λ (xs : List ℤ). IsSharedValue (record w { outputs = xs; steps = w.steps + (p.fresh + 1); journal = entered w k p })) (sym (c.in_ok-push.ensures.ok ∙ ap (λ (x : ℤ). w.outputs ++ x ∷ []) (to_z-of_z w64 c.args.value c.ranges.value)))
    (printed_world asks c.args.value T.0 T.1 (record { items = []; room = w.journal.room - 1 })))

pub returns-clause-goes : goal.returns-clause-goes
returns-clause-goes c =
    let w : SharedValue = the_view c.self.inside in
    let p : Private = c.args.part.now in
    let k : ℕ = c.args.worker in
    let asks : AsksAlone w k p = asks_alone c.self.view_is c.self.invariant c.requires.fits c.requires.shared c.requires.free in
    let T : (n : ℕ) × EndingTells w p (Prints c.args.value) n = subst (λ (z : SharedValue). (n : ℕ) × EndingTells z p (Prints c.args.value) n) (sym c.self.view_is) c.requires.prints in
    let frames : c.set_next.new.self ≡ with_next p.frames (p.frames.top.next + 1) = c.set_next.ensures ∙ ap (λ n. with_next p.frames (n + 1)) c.next-next.ensures in
    subst (λ (z : SharedValue). GoesAlone z (record w { outputs = c.push.new.self; steps = w.steps + (p.fresh + 1); journal = c.push_reserved.new.self }) k p (record p { frames = c.set_next.new.self; fresh = 0 })) c.self.view_is
    (subst (λ (s : FramesValue). GoesAlone w (record w { outputs = c.push.new.self; steps = w.steps + (p.fresh + 1); journal = c.push_reserved.new.self }) k p (record p { frames = s; fresh = 0 })) (sym frames)
    (along w k p p refl _ _ c.alone_of.ensures c.push_reserved.ensures (λ n j. GoesAlone w (record w { outputs = c.push.new.self; steps = n; journal = j }) k p (record p { frames = with_next p.frames (p.frames.top.next + 1); fresh = 0 }))
    (subst (λ (xs : List ℤ). GoesAlone w (record w { outputs = xs; steps = w.steps + (p.fresh + 1); journal = entered w k p }) k p (record p { frames = with_next p.frames (p.frames.top.next + 1); fresh = 0 })) (sym (c.in_ok-push.ensures.ok ∙ ap (λ (x : ℤ). w.outputs ++ x ∷ []) (to_z-of_z w64 c.args.value c.ranges.value)))
    (printed_goes asks c.args.value T.0 T.1 (record { items = []; room = w.journal.room - 1 })))))
