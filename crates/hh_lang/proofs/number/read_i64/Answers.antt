use Rattle.hh_lang.proofs.Tests.{as_option}
use Rattle.hh_lang.proofs.number.read_i64.Goals as goal

pub returns-clause-value : goal.returns-clause-value
returns-clause-value c = as_option c.args.bytes.now c.parse_i64.result c.parse_i64.ensures
