use Rattle.heap_graph.proofs.Common.{codes, on_ok_weaker}
use Rattle.heap_graph.proofs.Drawn.{node_made}
use Rattle.heap_graph.proofs.draw.add_point.Goals as goal

pub returns : goal.returns
returns c =
    on_ok_weaker c.end_statement.result
    (node_made c.args.name.now (codes "shape", codes "point") (codes "style", codes "invis") c.args.text.now.items
    c.begin_node.new.text.items c.add_attribute.new.text.items c.add_attribute-2.new.text.items c.end_statement.new.text.items
    c.in_ok-begin_node.ensures c.in_ok-add_attribute.ensures c.in_ok-add_attribute-2.ensures)
    c.end_statement.ensures
