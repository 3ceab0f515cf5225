use Rattle.copying_gc.proofs.Common.{◌<◌, length, get_or, set, ◌∙◌, ap, None, Option, arith, map_over_more, get_or_default, Addr, followed_ref}
use Rattle.copying_gc.proofs.redirect.follow_all.Goals as goal

pub loop-reference-preserved : goal.loop-reference-preserved
loop-reference-preserved c =
    let x : Option Addr = get_or c.loop-reference.references c.loop-reference.reference-index None in
    let l : c.loop-reference.reference-index < length c.loop-reference.references = omega (arith, c.loop-reference.auto.references) in
    ap (λ (r : Option Addr). set c.loop-reference.references c.loop-reference.reference-index r) c.follow.ensures.value
    ∙ map_over_more (followed_ref c.args.heap.now.chunks) c.args.references.now c.loop-reference.references c.loop-reference.reference-index x c.loop-reference-test.true c.loop-reference.invariant
    (get_or_default c.loop-reference.references c.loop-reference.reference-index None x l)
