use Rattle.collected_heap_laws.proofs.Reading as reading
use Rattle.collected_heap_laws.proofs.laws.moved_are_read.Goals as goal

pub returns : goal.returns
returns c = reading.moved_are_read
