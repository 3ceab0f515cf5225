use Rattle.heap_graph.proofs.Common.{◌++◌, ap, ◌∙◌, flat_map, on_ok_weaker, attribute, is_running, relation_of, task_name, port_name, link_attributes}
use Rattle.heap_graph.proofs.Drawn.{edge_made}
use Rattle.heap_graph.proofs.overview.add_link.Goals as goal

pub returns : goal.returns
returns c =
    let tasks = c.args.read.now.tasks in
    let t = c.args.link.0.0 in
    let u = c.args.link.0.1 in
    on_ok_weaker c.end_statement.result
    (edge_made (task_name t) (port_name 0) (task_name u) (link_attributes (is_running tasks u) c.args.link.1 (relation_of tasks t u)) c.args.text.now.items
    c.begin_link.new.text.items c.add_link_attributes.new.text.items c.end_statement.new.text.items
    c.in_ok-begin_link.ensures
    (c.in_ok-add_link_attributes.ensures
    ∙ ap (λ x. c.begin_link.new.text.items ++ flat_map attribute (link_attributes x c.args.link.1 c.relation-kind.result)) c.runs.ensures
    ∙ ap (λ x. c.begin_link.new.text.items ++ flat_map attribute (link_attributes (is_running tasks u) c.args.link.1 x)) c.relation-kind.ensures))
    c.end_statement.ensures
