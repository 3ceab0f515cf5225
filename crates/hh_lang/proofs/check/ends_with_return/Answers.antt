use Rattle.std.proofs.Common.{sym}
use Rattle.hh_lang.proofs.Programs.{ends_by_last}
use Rattle.hh_lang.proofs.check.ends_with_return.Goals as goal

pub returns-in-Some : goal.returns-in-Some
returns-in-Some c =
    let last = ends_by_last c.args.code.now c.in-Some.line.now (sym c.in-Some.ensures.value) in
    (λ h. last.1 (c.is_return.ensures.0 h), λ h. c.is_return.ensures.1 (last.0 h))
