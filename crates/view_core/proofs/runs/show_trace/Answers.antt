use Rattle.view_core.proofs.Common.{rules, Some, None, IfOk-weaker}
use Rattle.view_core.proofs.Told.{trace_told}
use Rattle.view_core.proofs.runs.show_trace.Goals as goal

pub returns-in-Ok : goal.returns-in-Ok
returns-in-Ok c =
    trace_told c.args.view c.args.settings c.args.input.now c.args.read.now c.with_version-settings.result c.as_slice-journal.result.now None c.in-Ok.shown
    c.with_version-settings.ensures c.as_slice-journal.ensures (search rules)
    c.in-Ok.ensures.shown

pub returns-in-Err-Refused : goal.returns-in-Err-Refused
returns-in-Err-Refused c =
    IfOk-weaker c.refused.result _ _
    (λ w h. trace_told c.args.view c.args.settings c.args.input.now c.args.read.now c.with_version-settings.result c.as_slice-journal.result.now (Some c.in-Err-Refused.entry) w
    c.with_version-settings.ensures c.as_slice-journal.ensures (search rules) h) c.refused.ensures
