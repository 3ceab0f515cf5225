use Rattle.command_answers.proofs.Common.{rules, List, subst, Some, None, IfOk-weaker, Race, races_text, IsRaceAnswer, IsText, races_status}
use Rattle.command_answers.proofs.Traces.{trace_told}
use Rattle.command_answers.proofs.races.answer_trace.Goals as goal

pub returns-in-Ok : goal.returns-in-Ok
returns-in-Ok c =
    IfOk-weaker c.answer_found.result _ _
    (λ a h. trace_told IsRaceAnswer c.args.settings c.args.read.now c.with_version-settings.result c.as_slice-journal.result.now None a
    c.with_version-settings.ensures c.as_slice-journal.ensures (search rules)
    (record {
      races = c.in-Ok.races.items;
      report = search rules;
      text = subst (λ (rs : List Race). IsText (races_status rs) (races_text rs) a) c.as_slice.ensures.value h;
    })) c.answer_found.ensures

pub returns-in-Err-Refused : goal.returns-in-Err-Refused
returns-in-Err-Refused c =
    IfOk-weaker c.refused.result _ _
    (λ a h. trace_told IsRaceAnswer c.args.settings c.args.read.now c.with_version-settings.result c.as_slice-journal.result.now (Some c.in-Err-Refused.entry) a
    c.with_version-settings.ensures c.as_slice-journal.ensures (search rules) h) c.refused.ensures
