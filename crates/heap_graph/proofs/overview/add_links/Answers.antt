use Rattle.heap_graph.proofs.Common.{◌+◌, ◌++◌, drop, sym, flat_map, dot, link_edge, links_drawn}
use Rattle.heap_graph.proofs.Loops.{piece_more, pairs_cut}
use Rattle.heap_graph.proofs.overview.add_links.Goals as goal

pub loop-place-preserved : goal.loop-place-preserved
loop-place-preserved c =
    let r = c.args.read.now in
    let ls = c.args.links.now in
    let i = c.loop-place.place in
    piece_more c.loop-place.text.items c.add_link.new.text.items (dot (link_edge r c.in-Some.link)) (flat_map dot (links_drawn r (drop i ls))) (flat_map dot (links_drawn r (drop (i + 1) ls)))
    (c.args.text.now.items ++ flat_map dot (links_drawn r ls))
    c.loop-place.invariant (pairs_cut r ls i c.in-Some.link (sym c.in-Some.ensures)) c.in_ok-add_link.ensures
