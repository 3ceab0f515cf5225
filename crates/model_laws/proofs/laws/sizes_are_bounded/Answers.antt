use Rattle.hh_model.proofs.Sizes as proved
use Rattle.model_laws.proofs.laws.sizes_are_bounded.Goals as goal

pub returns : goal.returns
returns c = proved.sizes_are_bounded
