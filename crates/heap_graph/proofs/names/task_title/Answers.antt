use Rattle.heap_graph.proofs.Common.{◌∙◌, IfOk-weaker}
use Rattle.heap_graph.proofs.Titles.{task_titled}
use Rattle.heap_graph.proofs.names.task_title.Goals as goal

pub returns : goal.returns
returns c = IfOk-weaker c.format.result _ _ (λ s e. e ∙ task_titled c.args.task.now.number _ _ _ _ c.word-state.ensures (c.as_str-words.ensures.value ∙ c.in_ok-words.ensures)) c.format.ensures.ok
