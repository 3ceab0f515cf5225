use Rattle.log_refusals.proofs.Common.{IfOk-weaker, ◌∙◌, ap, map, string_bytes, Global, place_text}
use Rattle.log_refusals.proofs.Parts.{task_is}
use Rattle.log_refusals.proofs.texts.task_refusal_text.Goals as goal

pub returns : goal.returns
returns c =
    let place = c.in_ok-place.ensures ∙ ap (place_text (map (string_bytes {Z = Global}) c.args.names.now)) c.last_line.ensures in
    IfOk-weaker c.format.result _ _ (λ s e. e ∙ task_is _ _ _ _ c.args.fault.strand.task place c.text_of_task_cause-cause.ensures) c.format.ensures.ok
