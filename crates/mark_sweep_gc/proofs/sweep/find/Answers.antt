use Rattle.mark_sweep_gc.proofs.Common.{◌≡◌, ◌∙◌, ap, arith, sym, ChunkValue}
use Rattle.mark_sweep_gc.proofs.Giving as giving
use Rattle.mark_sweep_gc.proofs.sweep.find.Goals as goal

pub returns-then-number : goal.returns-then-number
returns-then-number c =
    let number = ap (λ (k : ChunkValue). k.number) (sym c.index-chunks-i.is) ∙ (sym c.number.ensures ∙ c.if-number.true) in
    giving.found_at c.args.chunks.now c.loop-i.i c.args.number c.index-chunks-i.result c.loop-i-test.true c.loop-i.invariant number

pub loop-i-preserved : goal.loop-i-preserved
loop-i-preserved c =
    giving.fresh_more c.args.chunks.now c.loop-i.i c.args.number c.index-chunks-i.result c.loop-i-test.true c.loop-i.invariant
    (λ e. let same : c.number.result ≡ c.args.number = c.number.ensures ∙ (ap (λ (k : ChunkValue). k.number) c.index-chunks-i.is ∙ e) in let not_so = c.if-number.false in absurd (grind arith))
