use Rattle.chunk_list.proofs.Common.{◌≡◌, List, ap, sym, ◌∙◌, rules, option_map, arc_value, Level, levels_above, levels_in, nearest}
use Rattle.chunk_list.proofs.BareLevels.{nearest_behind}
use Rattle.chunk_list.proofs.view.View.piece.Goals as goal

pub returns-in-None : goal.returns-in-None
returns-in-None c =
    sym (ap (λ (ls : List Level). nearest ls c.args.number) (sym c.self.view_is)
    ∙ (nearest_behind c.self.inside.bare _ c.args.number ∙ ap (λ o. nearest (levels_above (option_map arc_value o)) c.args.number) c.in-None.is))

pub returns-in-Some : goal.returns-in-Some
returns-in-Some c =
    let same : levels_in arc_value c.deref-in-Some.result.now ≡ arc_value c.in-Some.levels = search rules in
    c.piece_of.ensures
    ∙ (ap (λ (ls : List Level). nearest ls c.args.number) same
    ∙ sym (ap (λ (ls : List Level). nearest ls c.args.number) (sym c.self.view_is)
    ∙ (nearest_behind c.self.inside.bare _ c.args.number ∙ ap (λ o. nearest (levels_above (option_map arc_value o)) c.args.number) c.in-Some.is)))
