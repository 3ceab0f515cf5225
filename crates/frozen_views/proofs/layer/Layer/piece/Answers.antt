use Rattle.frozen_views.proofs.Common.{◌≡◌, ◌<◌, ◌∙◌, Some, ap, arith, length, map, refl, sym, length-map, slice_get_read, arc_value}
use Rattle.frozen_views.proofs.Levels as levels
use Rattle.frozen_views.proofs.layer.Layer.piece.Goals as goal

pub index-requires : goal.index-requires
index-requires c =
    let at = levels.some_there (map arc_value c.self.inside.pieces.items) c.args.number c.in-Some.place.now (c.in-Some.ensures.value ∙ c.self.invariant c.args.number) in
    let inside = at.inside in
    let len = length-map c.self.inside.pieces.items arc_value in
    omega arith

pub returns-in-None : goal.returns-in-None
returns-in-None c = rw (← c.self.view_is) (sym (levels.none_there (map arc_value c.self.inside.pieces.items) c.args.number (c.in-None.ensures.value ∙ c.self.invariant c.args.number)))

pub returns-in-Some : goal.returns-in-Some
returns-in-Some c =
    let at = levels.some_there (map arc_value c.self.inside.pieces.items) c.args.number c.in-Some.place.now (c.in-Some.ensures.value ∙ c.self.invariant c.args.number) in
    rw (← c.self.view_is) (sym (at.is ∙ (slice_get_read (map arc_value c.self.inside.pieces.items) _ _ (arc_value c.index.result.now) refl at.inside (levels.read_mapped arc_value c.self.inside.pieces.items _ c.index.result.now c.index.ensures) ∙ ap Some (sym c.deref.ensures))))
