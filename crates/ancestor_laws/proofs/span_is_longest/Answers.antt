use Rattle.ancestor_laws.proofs.Span as proved
use Rattle.ancestor_laws.proofs.span_is_longest.Goals as goal

pub returns : goal.returns
returns c = proved.span_is_longest
