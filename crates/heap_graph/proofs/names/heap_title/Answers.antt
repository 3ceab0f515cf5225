use Rattle.heap_graph.proofs.Common.{◌∙◌, IfOk-weaker}
use Rattle.heap_graph.proofs.Titles.{heap_titled}
use Rattle.heap_graph.proofs.names.heap_title.Goals as goal

pub returns : goal.returns
returns c = IfOk-weaker c.format.result _ _ (λ s e. e ∙ heap_titled c.args.held.objects c.args.held.chunks _ _ (c.as_str-title.ensures.value ∙ c.in_ok-title.ensures)) c.format.ensures.ok
