use Rattle.run_trace.proofs.ReadAgain as proved
use Rattle.run_trace.proofs.laws.texts_are_read_again.Goals as goal

pub returns : goal.returns
returns c = proved.texts_are_read_again
