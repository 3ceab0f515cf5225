use Rattle.ledger_heaps.proofs.Common.{◌≡◌, ◌∙◌, ◌+◌, ◌-◌, ◌++◌, ◌∷◌, [], suc, ap, sym, append_assoc, arith, rules, parents, ancestors_by}
use Rattle.ledger_heaps.proofs.Above.{one_up}
use Rattle.ledger_heaps.proofs.reachable.ancestors.Goals as goal

pub loop-preserved : goal.loop-preserved
loop-preserved c =
    let par = parents c.args.machine.now.tasks in
    let k = c.args.t - (c.loop.counter + 1) in
    let rest = ancestors_by par k c.in-Some.parent in
    let left : c.args.t - c.loop.counter ≡ suc k = omega arith in
    ap (λ ls. ls ++ rest) c.in_ok-push.ensures.ok
    ∙ append_assoc c.loop.above (c.in-Some.parent ∷ []) rest
    ∙ ap (λ ls. c.loop.above ++ ls) (sym (one_up par k c.loop.at c.in-Some.parent (search rules)))
    ∙ ap (λ j. c.loop.above ++ ancestors_by par j c.loop.at) (sym left)
    ∙ c.loop.invariant
