use Rattle.heap_graph.proofs.Common.{◌++◌, ap, ◌∙◌, codes, on_ok_weaker, task_name, attribute, node_begin, heap_title, held_of}
use Rattle.heap_graph.proofs.Drawn.{node_made}
use Rattle.heap_graph.proofs.overview.add_heap_node.Goals as goal

pub returns : goal.returns
returns c =
    on_ok_weaker c.end_statement.result
    (node_made (task_name c.args.task.now.number) (codes "shape", codes "record") (codes "label", heap_title c.args.task.now (held_of c.args.heaps.now c.args.task.now.number)) c.args.text.now.items
    c.begin_node.new.text.items c.add_attribute.new.text.items c.add_attribute-2.new.text.items c.end_statement.new.text.items
    (c.in_ok-begin_node.ensures ∙ ap (λ n. c.args.text.now.items ++ node_begin n) (c.as_bytes.ensures.value ∙ c.in_ok-name.ensures))
    c.in_ok-add_attribute.ensures
    (c.in_ok-add_attribute-2.ensures ∙ ap (λ x. c.add_attribute.new.text.items ++ attribute (codes "label", x)) (c.as_bytes-2.ensures.value ∙ c.in_ok-title.ensures ∙ ap (heap_title c.args.task.now) c.held_of.ensures)))
    c.end_statement.ensures
