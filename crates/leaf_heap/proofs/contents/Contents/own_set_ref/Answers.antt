use Rattle.object_layout.proofs.ChunkLaws as chunks
use Rattle.leaf_heap.proofs.contents.Contents.own_set_ref.Goals as goal

pub own_place-place-requires : goal.own_place-place-requires
own_place-place-requires c = chunks.chunk_of_object c.args.self.now.chunks c.args.object (chunks.object_with_ref c.args.self.now.chunks c.args.object c.args.field c.requires.field)

pub set_ref_in-requires-clause-place : goal.set_ref_in-requires-clause-place
set_ref_in-requires-clause-place c = rw c.own_place-place.ensures (chunks.place_there c.args.self.now.chunks c.args.object.chunk (chunks.chunk_of_object c.args.self.now.chunks c.args.object (chunks.object_with_ref c.args.self.now.chunks c.args.object c.args.field c.requires.field)))
