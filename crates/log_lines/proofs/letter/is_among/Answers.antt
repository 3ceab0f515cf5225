use Rattle.log_lines.proofs.Common.{◌≡◌, ◌==◌, ◌∙◌, true, false, get_or, arith, nat_tests}
use Rattle.log_lines.proofs.Among.{among_next, among_found, among_end}
use Rattle.log_lines.proofs.letter.is_among.Goals as goal

pub returns-then-letter-byte : goal.returns-then-letter-byte
returns-then-letter-byte c =
    let same = c.if-letter-byte.true in
    let here : (get_or c.args.letters.now c.loop-letter.letter-index 0 == c.args.byte) ≡ true = grind (arith, nat_tests, same) in
    among_found c.args.letters.now c.loop-letter.letter-index c.args.byte 0 c.loop-letter-test.true here ∙ c.loop-letter.invariant

pub loop-letter-preserved : goal.loop-letter-preserved
loop-letter-preserved c =
    let other = c.if-letter-byte.false in
    let here : (get_or c.args.letters.now c.loop-letter.letter-index 0 == c.args.byte) ≡ false = grind (arith, nat_tests, other) in
    among_next c.args.letters.now c.loop-letter.letter-index c.args.byte 0 c.loop-letter-test.true here ∙ c.loop-letter.invariant

pub returns : goal.returns
returns c = among_end c.args.letters.now c.loop-letter.letter-index c.args.byte c.loop-letter-test.false ∙ c.loop-letter.invariant
