use Rattle.std.proofs.Common.{◌≤◌, arith}
use Rattle.log_lines.proofs.Digits.{longer_is_more}
use Rattle.log_lines.proofs.number.read_digits.Goals as goal

pub overflow_mul-number : goal.overflow_mul-number
overflow_mul-number c =
    let few : c.loop-byte.byte-index ≤ 18 = omega arith in
    let small = longer_is_more c.loop-byte.byte-index few in
    let below = c.loop-byte.invariant.1 in
    omega (arith, small, below)

pub overflow_add-number : goal.overflow_add-number
overflow_add-number c =
    let few : c.loop-byte.byte-index ≤ 18 = omega arith in
    let small = longer_is_more c.loop-byte.byte-index few in
    let below = c.loop-byte.invariant.1 in
    grind (arith, small, below)

pub returns-clause-below : goal.returns-clause-below
returns-clause-below c =
    let few : c.loop-byte.byte-index ≤ 18 = omega arith in
    let small = longer_is_more c.loop-byte.byte-index few in
    let below = c.loop-byte.invariant.1 in
    omega (arith, small, below)
