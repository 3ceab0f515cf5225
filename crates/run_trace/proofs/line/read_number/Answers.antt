use Rattle.run_trace.proofs.Numbers.{as_option}
use Rattle.run_trace.proofs.line.read_number.Goals as goal

pub returns : goal.returns
returns c = as_option c.args.word.now c.read_u32.result c.read_u32.ensures
