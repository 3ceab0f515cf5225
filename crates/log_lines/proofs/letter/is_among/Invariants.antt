use Rattle.log_lines.proofs.Common.{◌≡◌, drop, is_among}
use Rattle.log_lines.proofs.letter.is_among.Given as goal

abbrev pub invariant-loop-letter : goal.invariant-loop-letter
invariant-loop-letter l = is_among (drop l.letter-index l.letters) l.byte ≡ is_among l.letters l.byte
