use Rattle.log_touches.proofs.Common.{◌≡◌, ◌+◌, ◌-◌, ◌≤◌, ◌∙◌, ℕ, Option, Some, List, cond, length, drop, slice_get, ap, sym, subst, arith, length-set, got_within, strand, LogPiece, is_that, next_on}
use Rattle.log_touches.proofs.Linking.{none_first, head_more, link_set}
use Rattle.log_touches.proofs.pieces.links_of.Goals as goal

pub loop-place-init : goal.loop-place-init
loop-place-init c = record {
  within = omega arith;
  heads = λ t i. c.in_ok-heads.ensures t i ∙ sym (none_first (strand t i) c.args.pieces.now (length c.args.pieces.now) (omega arith));
  size = (let e = ap length c.from_vec-nexts.ensures in omega (arith, e, c.in_ok-vec.ensures.len, c.in_ok-vec.field-0.ok.0));
  nexts = λ k p le at. absurd (let l = got_within c.args.pieces.now k p at in omega (arith, l, le));
}

pub loop-place-preserved : goal.loop-place-preserved
loop-place-preserved c =
    let k = c.loop-place.place - 1 in
    let p = c.piece_at-piece.result in
    let before : k + 1 ≡ c.loop-place.place = omega (arith, c.loop-place-test.true) in
    record {
      within = omega (arith, c.loop-place.invariant.within);
      heads = λ t i.
          c.in_ok-next.ensures.new t i
          ∙ (ap (λ (o : Option ℕ). cond (is_that p.strand t i) (Some k) o)
          (c.loop-place.invariant.heads t i ∙ ap (λ n. next_on (strand t i) n (drop n c.args.pieces.now)) (sym before))
          ∙ head_more c.args.pieces.now k t i p c.piece_at-piece.ensures);
      size = ap length c.set.ensures ∙ (length-set c.loop-place.nexts k c.in_ok-next.next ∙ c.loop-place.invariant.size);
      nexts =
          subst (λ (ns : List (Option ℕ)). (j : ℕ) (q : LogPiece) → k ≤ j → slice_get c.args.pieces.now j ≡ Some q → slice_get ns j ≡ Some (next_on q.strand (j + 1) (drop (j + 1) c.args.pieces.now))) (sym c.set.ensures)
          (link_set c.args.pieces.now c.loop-place.nexts k p c.in_ok-next.next c.loop-place.invariant.size c.piece_at-piece.ensures
          (c.in_ok-next.ensures.old ∙ (c.loop-place.invariant.heads p.strand.task p.strand.index ∙ ap (λ n. next_on p.strand n (drop n c.args.pieces.now)) (sym before)))
          (omega (arith, c.loop-place.invariant.within, c.loop-place-test.true))
          (λ j q le at. c.loop-place.invariant.nexts j q (omega (arith, le, before)) at));
    }
