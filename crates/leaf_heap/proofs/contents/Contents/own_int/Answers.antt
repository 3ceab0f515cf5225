use Rattle.object_layout.proofs.ChunkLaws as chunks
use Rattle.leaf_heap.proofs.contents.Contents.own_int.Goals as goal

pub chunk_of-requires : goal.chunk_of-requires
chunk_of-requires c = chunks.chunk_of_object c.args.self.now.chunks c.args.object (chunks.object_with_int c.args.self.now.chunks c.args.object c.args.field c.requires)
