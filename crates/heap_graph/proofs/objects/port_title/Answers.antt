use Rattle.heap_graph.proofs.Common.{◌∙◌, IfOk-weaker}
use Rattle.heap_graph.proofs.Titles.{nil_port, reference_port}
use Rattle.heap_graph.proofs.objects.port_title.Goals as goal

pub returns-then-reference-eq0 : goal.returns-then-reference-eq0
returns-then-reference-eq0 c = IfOk-weaker c.format.result _ _ (λ s e. e ∙ nil_port c.args.place c.args.reference c.if-reference-eq0.true) c.format.ensures.ok

pub returns-else-reference-eq0 : goal.returns-else-reference-eq0
returns-else-reference-eq0 c = IfOk-weaker c.format-else-reference-eq0.result _ _ (λ s e. e ∙ reference_port c.args.place c.args.reference c.if-reference-eq0.false) c.format-else-reference-eq0.ensures.ok
