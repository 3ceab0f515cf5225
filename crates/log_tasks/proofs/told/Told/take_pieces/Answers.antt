use Rattle.log_tasks.proofs.Common.{take, events_of_pieces, arith}
use Rattle.log_tasks.proofs.Lines.{pieces_known}
use Rattle.log_tasks.proofs.told.Told.take_pieces.Goals as goal

pub take_piece-requires : goal.take_piece-requires
take_piece-requires c = (events_of_pieces c.args.texts.now (take c.loop-piece.piece-index c.args.pieces.now), c.loop-piece.invariant)

pub loop-piece-preserved : goal.loop-piece-preserved
loop-piece-preserved c =
    pieces_known c.args.texts.now c.args.pieces.now c.loop-piece.piece-index _ c.piece_lines-text.result.now c.take_piece.new.self (omega (arith, c.loop-piece-test.true)) c.piece_lines-text.ensures
    (c.in_ok-take_piece.ensures (events_of_pieces c.args.texts.now (take c.loop-piece.piece-index c.args.pieces.now)) c.loop-piece.invariant)
