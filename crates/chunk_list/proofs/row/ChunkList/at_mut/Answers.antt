use Rattle.std.proofs.Common.{refl}
use Rattle.chunk_list.proofs.Rows as rows
use Rattle.chunk_list.proofs.row.ChunkList.at_mut.Goals as goal

pub returns : goal.returns
returns c =
    rw (← c.self.view_is) (
      (refl, λ w. rw (rows.drop_set c.self.inside.chunks.items c.self.inside.before c.args.place _ w refl) refl),
      record { writes_back = tt; value = rows.drop_read c.self.inside.chunks.items c.self.inside.before c.args.place _ c.index_mut.result.now refl c.index_mut.ensures.value },
    )
