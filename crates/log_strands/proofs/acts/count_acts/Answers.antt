use Rattle.std.proofs.Common.{arith}
use Rattle.log_strands.proofs.Counted.{no_more}
use Rattle.log_strands.proofs.acts.count_acts.Goals as goal

pub returns-in-None : goal.returns-in-None
returns-in-None c =
    let most = no_more c.args.texts.now c.args.pieces.now c.loop-piece.piece-index _ c.piece_text.result.now (omega (arith, c.loop-piece-test.true)) c.piece_text.ensures in
    omega (arith, most, c.in-None.ensures, c.loop-piece.invariant)
