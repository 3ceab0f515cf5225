use Rattle.hh_model.proofs.ForkJoinStates.{path_is_precedence}
use Rattle.model_laws.proofs.laws.path_is_precedence.Goals as goal

pub returns : goal.returns
returns c = path_is_precedence
