use Rattle.heap_image.proofs.Common.{◌∙◌, IfOk-weaker}
use Rattle.heap_image.proofs.Spaced.{rooted_line, child_line}
use Rattle.heap_image.proofs.text.task_text.Goals as goal

pub returns-in-None : goal.returns-in-None
returns-in-None c = IfOk-weaker c.format.result _ _ (λ s e. e ∙ rooted_line c.args.task.now _ c.in-None.is c.word-state.ensures) c.format.ensures.ok

pub returns-in-Some : goal.returns-in-Some
returns-in-Some c = IfOk-weaker c.format-in-Some.result _ _ (λ s e. e ∙ child_line c.args.task.now c.in-Some.parent _ c.in-Some.is c.word-state.ensures) c.format-in-Some.ensures.ok
