use Rattle.std.proofs.lemmas.Result.{on_ok_weaker}
use Rattle.heap_graph.proofs.Drawn.{titled_made}
use Rattle.heap_graph.proofs.draw.add_titled.Goals as goal

pub returns : goal.returns
returns c = λ ss e.
    on_ok_weaker c.end_braces.result
    (titled_made c.args.cluster.now c.args.name.now c.args.title.now ss c.args.within.now c.args.text.now.items c.begin_cluster.new.text.items c.set_attribute.new.text.items c.add_point.new.text.items c.add_text.new.text.items c.end_braces.new.text.items
    e c.in_ok-begin_cluster.ensures c.in_ok-set_attribute.ensures c.in_ok-add_point.ensures c.in_ok-add_text.ensures)
    c.end_braces.ensures
