use Rattle.frozen_views.proofs.Common.{◌∙◌, map, nat_eq, sym, arc_value, get, frozen_of, Level}
use Rattle.frozen_views.proofs.Levels as levels
use Rattle.frozen_views.proofs.layer.Layer.add.Goals as goal

pub returns-then-contains_key : goal.returns-then-contains_key
returns-then-contains_key c = λ n.
    let l : Level = map arc_value c.self.inside.pieces.items in
    rw (← c.self.view_is)
    (levels.known_where l (frozen_of c.args.chunk.now) c.number.result c.number.ensures (get nat_eq c.self.inside.table c.number.result) (c.self.invariant c.number.result) (sym c.contains_key.ensures ∙ c.if-contains_key.true) n)
