use Rattle.run_trace.proofs.Common.{refl, is_utf8-from_IsUtf8, not_utf8}
use Rattle.run_trace.proofs.trace.read_version.Goals as goal

pub returns-in-Ok : goal.returns-in-Ok
returns-in-Ok c = rw (is_utf8-from_IsUtf8 c.args.line.now c.in-Ok.ensures.cases.1) c.version_in_words.ensures

pub returns-in-Err : goal.returns-in-Err
returns-in-Err c = rw (not_utf8 c.args.line.now c.in-Err.ensures.cases.0) refl
