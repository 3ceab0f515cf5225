use Rattle.object_layout.proofs.Common.{◌<◌, ◌∙◌, ap, length, refl, rules, subst, sym, Some, w64, slice_get, to_z-of_z, Cell}
use Rattle.object_layout.proofs.PieceLemmas as piece
use Rattle.object_layout.proofs.piece.Piece.int.Goals as goal

pub int_at-requires : goal.int_at-requires
int_at-requires c =
    let l = rw (← c.self.view_is) at c.requires in
    subst (λ (x : Cell). c.args.field < length x.ints) (piece.with_field c.self.inside.chunk.cells c.args.offset (λ x. length x.ints) refl c.args.field l) l

pub returns : goal.returns
returns c =
    let l = rw (← c.self.view_is) at c.requires in
    let back = to_z-of_z w64 c.int_at.result (search rules) in
    rw (← c.self.view_is)
    (ap (λ (x : Cell). slice_get x.ints c.args.field) (piece.with_field c.self.inside.chunk.cells c.args.offset (λ x. length x.ints) refl c.args.field l) ∙ c.int_at.ensures ∙ ap Some (sym back))
