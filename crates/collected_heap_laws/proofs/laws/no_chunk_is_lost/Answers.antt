use Rattle.collected_heap_laws.proofs.Giving as lemmas
use Rattle.collected_heap_laws.proofs.laws.no_chunk_is_lost.Goals as goal

pub returns : goal.returns
returns c = lemmas.no_chunk_is_lost
