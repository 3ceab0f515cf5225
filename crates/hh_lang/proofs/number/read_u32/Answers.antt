use Rattle.hh_lang.proofs.Digits.{digits_are_utf8}
use Rattle.hh_lang.proofs.number.read_u32.Goals as goal

pub returns-in-Err : goal.returns-in-Err
returns-in-Err c = λ h. c.in-Err.ensures.cases.0 (digits_are_utf8 c.args.bytes.now h.0.1)
