use Rattle.log_births.proofs.Common.{◌∙◌, sym, arith}
use Rattle.log_births.proofs.Unborn.{piece_has, piece_lacks, all_lack}
use Rattle.log_births.proofs.some_lifetime.have_lifetimes.Goals as goal

pub returns-then-says_lifetime : goal.returns-then-says_lifetime
returns-then-says_lifetime c =
    sym (piece_has c.args.texts.now c.args.pieces.now c.loop-piece.piece-index _ c.piece_lines.result.now (omega (arith, c.loop-piece-test.true)) c.piece_lines.ensures (sym c.says_lifetime.ensures ∙ c.if-says_lifetime.true))

pub loop-piece-preserved : goal.loop-piece-preserved
loop-piece-preserved c =
    piece_lacks c.args.texts.now c.args.pieces.now c.loop-piece.piece-index _ c.piece_lines.result.now (omega (arith, c.loop-piece-test.true)) c.piece_lines.ensures c.loop-piece.invariant (sym c.says_lifetime.ensures ∙ c.if-says_lifetime.false)

pub returns : goal.returns
returns c = sym (all_lack c.args.texts.now c.args.pieces.now c.loop-piece.piece-index (omega (arith, c.loop-piece-test.false)) c.loop-piece.invariant)
