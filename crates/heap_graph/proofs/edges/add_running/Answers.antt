use Rattle.heap_graph.proofs.Common.{ℕ, List, ◌++◌, ap, ◌∙◌, codes, on_ok_weaker, attribute, kind_attributes, task_cluster}
use Rattle.heap_graph.proofs.Running.{two_added}
use Rattle.heap_graph.proofs.edges.add_running.Goals as goal

pub returns : goal.returns
returns c =
    let u : List ℕ = c.add_attribute.new.text.items in
    let named = ap (λ (x : List ℕ). u ++ attribute (codes "lhead", x)) (c.as_bytes.ensures.value ∙ c.in_ok-cluster.ensures) in
    on_ok_weaker c.add_kind.result
    (two_added attribute (codes "style", codes "dashed") (codes "lhead", task_cluster c.args.task) (kind_attributes c.args.kind) c.args.text.now.items u c.add_attribute-2.new.text.items c.add_kind.new.text.items c.in_ok-add_attribute.ensures (c.in_ok-add_attribute-2.ensures ∙ named))
    c.add_kind.ensures
