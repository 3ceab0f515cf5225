use Rattle.log_strands.proofs.Common.{◌^◌, arith}
use Rattle.log_strands.proofs.Bytes.{bytes_more, too_many, not_too_many}
use Rattle.log_strands.proofs.few.has_few_bytes.Goals as goal

pub returns-then-bytes-ge-BYTES_LIMIT : goal.returns-then-bytes-ge-BYTES_LIMIT
returns-then-bytes-ge-BYTES_LIMIT c =
    too_many c.args.texts.now c.args.pieces.now c.loop-piece.piece-index _ c.piece_text.result.now (2 ^ 32) (omega (arith, c.loop-piece-test.true)) c.piece_text.ensures
    (let sum = c.loop-piece.invariant.sum in let much = c.if-bytes-ge-BYTES_LIMIT.true in omega (arith, sum, much))

pub loop-piece-preserved : goal.loop-piece-preserved
loop-piece-preserved c = record {
  sum =
      let sum = c.loop-piece.invariant.sum in
      let more = bytes_more c.args.texts.now c.args.pieces.now c.loop-piece.piece-index _ c.piece_text.result.now (omega (arith, c.loop-piece-test.true)) c.piece_text.ensures in
      omega (arith, sum, more);
  few = omega (arith, c.if-bytes-ge-BYTES_LIMIT.false);
}

pub returns : goal.returns
returns c = not_too_many c.args.texts.now c.args.pieces.now c.loop-piece.piece-index c.loop-piece.bytes (2 ^ 32) c.loop-piece-test.false c.loop-piece.invariant.sum c.loop-piece.invariant.few
