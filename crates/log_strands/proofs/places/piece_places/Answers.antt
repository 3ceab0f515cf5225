use Rattle.log_strands.proofs.Common.{◌∙◌, ◌+◌, ℕ, length, ap, length_push}
use Rattle.log_strands.proofs.Noted.{first_more}
use Rattle.log_strands.proofs.places.piece_places.Goals as goal

pub loop-piece-preserved : goal.loop-piece-preserved
loop-piece-preserved c = record {
  count = ap length c.in_ok-push.ensures.ok ∙ length_push c.loop-piece.places c.place.result ∙ ap (λ (n : ℕ). n + 1) c.loop-piece.invariant.count;
  each =
      first_more c.args.log.now c.args.order.now c.in_ok-table.table c.args.pieces.now c.loop-piece.places c.push.new.self c.loop-piece.piece-index _ c.place.result c.in_ok-table.ensures c.place.ensures
      c.loop-piece.invariant.count c.in_ok-push.ensures.ok c.loop-piece.invariant.each;
}
