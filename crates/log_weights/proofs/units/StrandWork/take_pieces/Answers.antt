use Rattle.log_weights.proofs.Common.{arith, acts_in, work_of}
use Rattle.log_weights.proofs.Works.{pieces_knows}
use Rattle.log_weights.proofs.units.StrandWork.take_pieces.Goals as goal

pub add-requires : goal.add-requires
add-requires c = (work_of (acts_in c.piece_lines.result.now), c.text_work-work.ensures)

pub loop-piece-preserved : goal.loop-piece-preserved
loop-piece-preserved c =
    pieces_knows c.args.texts.now c.args.pieces.now c.loop-piece.piece-index _ c.piece_lines.result.now c.loop-piece.self c.add.new.self c.text_work-work.result
    (omega (arith, c.loop-piece-test.true)) c.piece_lines.ensures c.text_work-work.ensures c.loop-piece.invariant c.in_ok-add.ensures
