use Rattle.object_layout.proofs.ChunkLaws as chunks
use Rattle.leaf_heap.proofs.contents.Contents.own_header.Goals as goal

pub chunk_of-requires : goal.chunk_of-requires
chunk_of-requires c = chunks.chunk_of_object c.args.self.now.chunks c.args.object c.requires
