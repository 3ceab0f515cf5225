use Rattle.log_lines.proofs.Common.{ℕ, ◌<◌, length, Option, Some, subst, arith}
use Rattle.memchr.specs.Find.{IsFirstByte, is_byte}
use Rattle.log_lines.proofs.Feeds.{found_end, no_end}
use Rattle.log_lines.proofs.ends.far_end.Goals as goal

pub returns-in-Some : goal.returns-in-Some
returns-in-Some c =
    let first : IsFirstByte (is_byte 10) c.args.text.now (Some c.in-Some.end) = subst (λ (found : Option ℕ). IsFirstByte (is_byte 10) c.args.text.now found) c.in-Some.is c.memchr.ensures in
    let high : c.in-Some.end < length c.args.text.now = first.0.high in
    record { end = found_end c.args.text.now c.in-Some.end first; within = omega (arith, high) }

pub returns-in-None : goal.returns-in-None
returns-in-None c = record {
  end = no_end c.args.text.now (subst (λ (found : Option ℕ). IsFirstByte (is_byte 10) c.args.text.now found) c.in-None.is c.memchr.ensures);
  within = omega arith;
}
