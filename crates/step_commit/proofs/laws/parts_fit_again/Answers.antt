use Rattle.step_commit.proofs.FitsAfterSteps as proved
use Rattle.step_commit.proofs.laws.parts_fit_again.Goals as goal

pub returns : goal.returns
returns c = proved.parts_fit_again
