use Rattle.page_data.proofs.Common.{[], ◌∷◌, codes, flat_map, on_ok_weaker, more, child}
use Rattle.page_data.proofs.Pieces.{listed}
use Rattle.page_data.proofs.delta.add_listed_children.Goals as goal

pub returns : goal.returns
returns c =
    on_ok_weaker c.end_list.result
    (listed c.args.text.now.items (codes ",\"made\":[") (child c.args.program.now c.args.first) (flat_map (λ x. more (child c.args.program.now x)) c.args.rest.now) (93 ∷ [])
    c.add_bytes.new.text.items c.add_child.new.text.items c.more_children.new.text.items c.end_list.new.text.items
    c.in_ok-add_bytes.ensures c.in_ok-add_child.ensures c.in_ok-more_children.ensures)
    c.end_list.ensures
