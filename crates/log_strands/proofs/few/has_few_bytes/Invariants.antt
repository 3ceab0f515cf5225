use Rattle.log_strands.proofs.Common.{◌≡◌, ◌<◌, ◌^◌, take, bytes_of}
use Rattle.log_strands.proofs.few.has_few_bytes.Given as goal

abbrev pub invariant-loop-piece : goal.invariant-loop-piece
invariant-loop-piece l = record {
  sum : l.bytes ≡ bytes_of l.texts (take l.piece-index l.pieces);
  few : l.bytes < 2 ^ 32;
}
