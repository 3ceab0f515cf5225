use Rattle.heap_graph.proofs.Common.{◌++◌, ap, ◌∙◌, codes, on_ok_weaker, attribute, node_begin, object_name, object_title}
use Rattle.heap_graph.proofs.Drawn.{node_made}
use Rattle.heap_graph.proofs.objects.add_node.Goals as goal

pub returns : goal.returns
returns c =
    on_ok_weaker c.end_statement.result
    (node_made (object_name c.args.object.now.address) (codes "shape", codes "record") (codes "label", object_title c.args.line.now c.args.object.now) c.args.text.now.items
    c.begin_node.new.text.items c.add_attribute.new.text.items c.add_attribute-2.new.text.items c.end_statement.new.text.items
    (c.in_ok-begin_node.ensures ∙ ap (λ n. c.args.text.now.items ++ node_begin n) (c.as_bytes.ensures.value ∙ c.in_ok-name.ensures))
    c.in_ok-add_attribute.ensures
    (c.in_ok-add_attribute-2.ensures ∙ ap (λ x. c.add_attribute.new.text.items ++ attribute (codes "label", x)) (c.as_slice.ensures.value ∙ c.in_ok-title.ensures)))
    c.end_statement.ensures
