use Rattle.mark_sweep_gc.proofs.Common.{◌≡◌, List, All, get_or, true, refl, sym, ap, ◌∙◌, subst, arith, false≢true, take_all, Addr, MarkingValue, has_address}
use Rattle.mark_sweep_gc.proofs.Finding as finding
use Rattle.mark_sweep_gc.proofs.marking.Marking.has_all.Goals as goal

abbrev none : Addr
none = record { chunk = 0; offset = 0 }

pub returns-then-not-contains : goal.returns-then-not-contains
returns-then-not-contains c =
    let object : Addr = get_or c.args.objects.now c.loop-object.object-index none in
    let known = c.self.invariant object in
    let found = ap (λ (m : MarkingValue). has_address m.found object) c.self.view_is in
    let missing = c.if-not-contains.true in
    let e = c.contains.ensures in
    (λ t. absurd (false≢true t), λ all. absurd (false≢true (sym (sym found ∙ (sym known ∙ (sym e ∙ missing))) ∙ all c.loop-object.object-index none c.loop-object-test.true)))

pub loop-object-preserved : goal.loop-object-preserved
loop-object-preserved c =
    let object : Addr = get_or c.args.objects.now c.loop-object.object-index none in
    let known = c.self.invariant object in
    let found = ap (λ (m : MarkingValue). has_address m.found object) c.self.view_is in
    let there = c.if-not-contains.false in
    let e = c.contains.ensures in
    finding.all_more (λ a. has_address c.args.self.now.found a ≡ true) c.args.objects.now c.loop-object.object-index none c.loop-object-test.true c.loop-object.invariant (sym found ∙ (sym known ∙ (sym e ∙ there)))

pub returns : goal.returns
returns c =
    let done = take_all c.loop-object.object-index c.args.objects.now (omega arith) in
    (λ t. subst (λ (xs : List Addr). All (λ a. has_address c.args.self.now.found a ≡ true) xs) done c.loop-object.invariant, λ all. refl)
