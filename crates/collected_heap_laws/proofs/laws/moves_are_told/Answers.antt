use Rattle.collected_heap_laws.proofs.Telling as lemmas
use Rattle.collected_heap_laws.proofs.laws.moves_are_told.Goals as goal

pub returns : goal.returns
returns c = lemmas.moves_are_told
