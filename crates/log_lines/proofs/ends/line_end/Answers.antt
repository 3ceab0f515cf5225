use Rattle.log_lines.proofs.Common.{ℕ, ◌<◌, length, take, length-take, Option, Some, subst, arith}
use Rattle.memchr.specs.Find.{IsFirstByte, is_byte}
use Rattle.log_lines.proofs.Feeds.{near_end}
use Rattle.log_lines.proofs.ends.line_end.Goals as goal

pub returns-in-Some : goal.returns-in-Some
returns-in-Some c =
    let first : IsFirstByte (is_byte 10) (take 32 c.args.text.now) (Some c.in-Some.end) = subst (λ (found : Option ℕ). IsFirstByte (is_byte 10) (take 32 c.args.text.now) found) c.in-Some.is c.memchr.ensures in
    let high : c.in-Some.end < length (take 32 c.args.text.now) = first.0.high in
    let part = length-take 32 c.args.text.now in
    record { end = near_end c.args.text.now 32 c.in-Some.end c.if-text-lt-SHORT.false first; within = omega (arith, high, part) }
