use Rattle.leaf_heap.proofs.HeapLemmas.{place_within}
use Rattle.task_machine.proofs.part.Private.chunk_of.Goals as goal

pub chunk_in-requires : goal.chunk_in-requires
chunk_in-requires c = place_within c.args.self.now.heap.chunks c.args.own.object.chunk c.args.own.place c.requires.there.place

pub returns : goal.returns
returns c = record { cell = c.chunk_in.ensures c.args.own.object c.requires.there.place }
