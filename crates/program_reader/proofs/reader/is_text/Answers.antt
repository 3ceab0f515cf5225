use Rattle.program_reader.proofs.Common.{sym, is_utf8-from_IsUtf8, not_utf8}
use Rattle.program_reader.proofs.reader.is_text.Goals as goal

pub returns-in-Ok : goal.returns-in-Ok
returns-in-Ok c = sym (is_utf8-from_IsUtf8 c.args.line.now c.in-Ok.ensures.cases.1)

pub returns-in-Err : goal.returns-in-Err
returns-in-Err c = sym (not_utf8 c.args.line.now c.in-Err.ensures.cases.0)
