use Rattle.heap_graph.proofs.Common.{[], refl, ◌∙◌, on_ok_weaker}
use Rattle.heap_graph.proofs.Drawn.{titled_along}
use Rattle.heap_graph.proofs.draw.add_task_box.Goals as goal

pub returns : goal.returns
returns c =
    on_ok_weaker c.add_titled.result
    (titled_along [] _ _ _ _ _ _ c.args.text.now.items c.add_titled.new.text.items
    (c.as_bytes.ensures.value ∙ c.in_ok-cluster.ensures)
    (c.as_bytes-2.ensures.value ∙ c.in_ok-name.ensures)
    (c.as_bytes-3.ensures.value ∙ c.in_ok-title.ensures))
    (c.add_titled.ensures [] refl)
