use Rattle.ancestor_laws.proofs.Meetings as proved
use Rattle.ancestor_laws.proofs.ancestors_tell_precedence.Goals as goal

pub returns : goal.returns
returns c = proved.ancestors_tell_precedence
