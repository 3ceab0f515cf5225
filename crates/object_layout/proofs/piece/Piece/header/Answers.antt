use Rattle.object_layout.proofs.Common.{◌∙◌, ap, sym, Some, option_map, header_of}
use Rattle.object_layout.proofs.PieceLemmas as piece
use Rattle.object_layout.proofs.piece.Piece.header.Goals as goal

pub header_at-requires : goal.header_at-requires
header_at-requires c = (piece.found_is c.self.inside.chunk.cells c.args.offset (rw (← c.self.view_is) at (sym c.has.ensures ∙ c.if-has.true))).there

pub returns-then-has : goal.returns-then-has
returns-then-has c =
    let found = piece.found_is c.self.inside.chunk.cells c.args.offset (rw (← c.self.view_is) at (sym c.has.ensures ∙ c.if-has.true)) in
    rw (← c.self.view_is) (ap Some c.header_at.ensures.kind ∙ sym (ap (option_map header_of) found.is))
