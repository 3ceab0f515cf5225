use Rattle.race_cells.proofs.Common.{◌≡◌, ◌-◌, take, length, true, ap, sym, ◌∙◌, arith, is_low}
use Rattle.race_cells.proofs.Lists.{length_popped}
use Rattle.race_cells.proofs.Lowering.{lowered_next}
use Rattle.race_cells.proofs.stack.lower.Goals as goal

pub loop-below-preserved : goal.loop-below-preserved
loop-below-preserved g c =
    let o = g.S.Strands.order c.args.strands.now in
    let xs = c.loop-below.entries.items in
    let ys = c.pop.new.self.items in
    let zs = c.pop-in-Some.new.self.items in
    let low : is_low o c.args.strand c.in-Some.below c.in-Some.top ≡ true = sym c.is_low.ensures ∙ c.if-not-is_low.false in
    let once : ys ≡ take (length xs - 1) xs = c.pop.ensures.rest ∙ ap (λ n. take (n - 1) xs) c.loop-below.entries.ok.0 in
    let twice : zs ≡ take (length ys - 1) ys = c.pop-in-Some.ensures.rest ∙ ap (λ n. take (n - 1) ys) c.pop.new.self.ok.0 in
    let step = lowered_next o c.args.strand xs ys zs c.in-Some.below c.in-Some.top c.in-Some.ensures.pair low once twice in
    record {
      left = simp (c.push_reserved.ensures.items, c.last_to_leave.ensures) (step ∙ c.loop-below.invariant.left);
      capacity = cc;
      fewer = omega (arith, c.in-Some.ensures.two, length_popped xs ys once, length_popped ys zs twice);
    }
