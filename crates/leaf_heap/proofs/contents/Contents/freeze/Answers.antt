use Rattle.object_layout.proofs.ChunkLaws as chunks
use Rattle.leaf_heap.proofs.contents.Contents.freeze.Goals as goal

pub own_place-place-requires : goal.own_place-place-requires
own_place-place-requires c = chunks.chunk_of_object c.args.self.now.chunks c.args.object c.requires

pub freeze_in-requires-clause-place : goal.freeze_in-requires-clause-place
freeze_in-requires-clause-place c = rw c.own_place-place.ensures (chunks.place_there c.args.self.now.chunks c.args.object.chunk (chunks.chunk_of_object c.args.self.now.chunks c.args.object c.requires))
