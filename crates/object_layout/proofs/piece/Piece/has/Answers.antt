use Rattle.std.proofs.Common.{◌∙◌}
use Rattle.object_layout.proofs.PieceLemmas as piece
use Rattle.object_layout.proofs.piece.Piece.has.Goals as goal

pub returns : goal.returns
returns c =
    c.is_ok.ensures.value
    ∙ rw (← c.self.view_is) (piece.searched_in c.self.inside.chunk.cells _ (c.as_slice.ensures.value ∙ c.self.invariant) c.args.offset c.binary_search.result c.binary_search.ensures.position)
