use Rattle.frozen_views.proofs.Common.{◌≡◌, ◌∙◌, ◌∷◌, [], ◌<◌, ◌≤◌, List, ℕ, ap, arith, length, map, nat_eq, rules, sym, length-map, map-append, arc_value, get, spare, PieceValue, Level}
use Rattle.frozen_views.proofs.Levels as levels
use Rattle.frozen_views.proofs.layer.Layer.put.Goals as goal

pub returns-then-contains_key : goal.returns-then-contains_key
returns-then-contains_key c = λ n.
    let l : Level = map arc_value c.self.inside.pieces.items in
    let number : c.number-number.result ≡ (arc_value c.args.piece).number = c.number-number.ensures ∙ ap (λ (f : PieceValue). f.number) c.deref.ensures in
    let same : get nat_eq c.reserve.new.self c.number-number.result ≡ get nat_eq c.self.inside.table c.number-number.result = search rules in
    rw (← c.self.view_is, c.in_ok-reserve-2.ensures.items)
    (levels.known_where l (arc_value c.args.piece) c.number-number.result number (get nat_eq c.reserve.new.self c.number-number.result) (same ∙ c.self.invariant c.number-number.result) (sym c.contains_key.ensures ∙ c.if-contains_key.true) n)

pub invariant_of-self-2 : goal.invariant_of-self-2
invariant_of-self-2 c = λ q.
    let l : Level = map arc_value c.self.inside.pieces.items in
    let number : c.number-number.result ≡ (arc_value c.args.piece).number = c.number-number.ensures ∙ ap (λ (f : PieceValue). f.number) c.deref.ensures in
    let same : get nat_eq c.reserve.new.self c.number-number.result ≡ get nat_eq c.self.inside.table c.number-number.result = search rules in
    let before : get nat_eq c.reserve.new.self q ≡ get nat_eq c.self.inside.table q = search rules in
    let none = levels.unknown_where (get nat_eq c.reserve.new.self c.number-number.result) _ (same ∙ c.self.invariant c.number-number.result) (sym c.contains_key.ensures ∙ c.if-contains_key.false) in
    let room : 0 < spare c.reserve.new.self = let r = c.in_ok-reserve.ensures.ok in omega arith in
    let writes = (levels.on_ok c.insert.result (c.insert.ensures.succeeds room) c.insert.ensures.updates).0 q in
    let len = length-map c.self.inside.pieces.items arc_value in
    let kept = c.in_ok-reserve-2.ensures.len in
    let size : c.len.result ≡ length l = omega arith in
    rw (c.push_reserved.ensures.items, c.in_ok-reserve-2.ensures.items, map-append arc_value c.self.inside.pieces.items (c.args.piece ∷ []))
    (levels.entry_more l (arc_value c.args.piece) c.number-number.result number none q c.len.result size _ _ writes (before ∙ c.self.invariant q))

pub returns : goal.returns
returns c = λ n.
    rw (← c.self.view_is, c.push_reserved.ensures.items, c.in_ok-reserve-2.ensures.items, map-append arc_value c.self.inside.pieces.items (c.args.piece ∷ []))
    (levels.found_in_both (map arc_value c.self.inside.pieces.items) (arc_value c.args.piece ∷ []) n)
