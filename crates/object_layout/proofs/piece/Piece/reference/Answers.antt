use Rattle.object_layout.proofs.Common.{◌<◌, ◌∙◌, ap, length, refl, subst, slice_get, Cell}
use Rattle.object_layout.proofs.PieceLemmas as piece
use Rattle.object_layout.proofs.piece.Piece.reference.Goals as goal

pub ref_at-requires : goal.ref_at-requires
ref_at-requires c =
    let l = rw (← c.self.view_is) at c.requires in
    subst (λ (x : Cell). c.args.field < length x.refs) (piece.with_field c.self.inside.chunk.cells c.args.offset (λ x. length x.refs) refl c.args.field l) l

pub returns-clause-value : goal.returns-clause-value
returns-clause-value c =
    let l = rw (← c.self.view_is) at c.requires in
    rw (← c.self.view_is)
    (ap (λ (x : Cell). slice_get x.refs c.args.field) (piece.with_field c.self.inside.chunk.cells c.args.offset (λ x. length x.refs) refl c.args.field l) ∙ c.ref_at.ensures.value)
