use Rattle.whole_call.proofs.Inputs.{was_read}
use Rattle.whole_call.proofs.input.read_up_to.Goals as goal

pub returns-clause-read : goal.returns-clause-read
returns-clause-read g c = was_read c.args.limit _ c.read_file.result _ _ c.read_file.ensures.within c.read_file.ensures.input c.read_file.ensures.taken
