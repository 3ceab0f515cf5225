use Rattle.command_answers.proofs.Common.{◌∙◌, ap, rules, Some, None, IfOk-weaker, out_text, Extras, IsModelled}
use Rattle.command_answers.proofs.Traces.{modelled, trace_told}
use Rattle.command_answers.proofs.model.answer_trace.Goals as goal

pub returns-in-Ok : goal.returns-in-Ok
returns-in-Ok c =
    trace_told (IsModelled c.args.options) c.args.options.settings c.args.read.now c.with_version-settings.result c.as_slice-journal.result.now None c.bytes_alone.result
    c.with_version-settings.ensures c.as_slice-journal.ensures (search rules)
    (modelled c.args.options c.args.read.now.program c.with_version-settings.result c.as_slice-journal.result.now c.in-Ok.run'.end c.of_end.result c.in-Ok.run'.text c.bytes_alone.result
    (search rules) c.of_end.ensures
    (c.in-Ok.ensures.text ∙ ap (λ (x : Extras). out_text c.args.read.now.program c.with_version-settings.result x.report x.trace c.as_slice-journal.result.now) c.extras_of.ensures)
    c.bytes_alone.ensures)

pub returns-in-Err-Refused : goal.returns-in-Err-Refused
returns-in-Err-Refused c =
    IfOk-weaker c.refused.result _ _
    (λ a h. trace_told (IsModelled c.args.options) c.args.options.settings c.args.read.now c.with_version-settings.result c.as_slice-journal.result.now (Some c.in-Err-Refused.entry) a
    c.with_version-settings.ensures c.as_slice-journal.ensures (search rules) h) c.refused.ensures
