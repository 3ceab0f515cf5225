use Rattle.hh_lang.proofs.Digits.{numbers_are_utf8}
use Rattle.hh_lang.proofs.number.parse_i64.Goals as goal

pub returns-in-Err : goal.returns-in-Err
returns-in-Err c = λ h. c.in-Err.ensures.cases.0 (numbers_are_utf8 c.args.bytes.now h.0)
