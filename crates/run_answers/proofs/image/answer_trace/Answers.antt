use Rattle.run_answers.proofs.Common.{◌≡◌, ◌∙◌, ap, subst, Some, IfOk-weaker, first_refused, RefusedAt, HasReplayed, IsReplayStop, ReplayGives, SharedValue, Entry, IsImaged, Refuses}
use Rattle.command_answers.proofs.Imaged.{imaged}
use Rattle.command_answers.proofs.Runs.{refused_first}
use Rattle.command_answers.proofs.Traces.{trace_told}
use Rattle.run_answers.proofs.image.answer_trace.Goals as goal

pub returns-in-Ok : goal.returns-in-Ok
returns-in-Ok c =
    let is = c.shared.ensures ∙ c.shared-counted.ensures in
    let has : HasReplayed c.args.read.now.program c.with_version-settings.result c.as_slice.result.now c.in-Ok.world =
    subst (ReplayGives c.args.read.now.program c.with_version-settings.result c.as_slice.result.now) c.in-Ok.is c.in_ok-replayed.ensures in
    IfOk-weaker c.answer_made-answer.result _ _
    (λ a h. imaged c.args.settings c.args.read.now c.with_version-settings.result c.as_slice.result.now c.shared.result.now a c.with_version-settings.ensures c.as_slice.ensures
    (ap (λ (w : SharedValue). w.program) is ∙ has.program) (ap (λ (w : SharedValue). w.settings) is ∙ has.settings) (ap (λ (w : SharedValue). w.journal.items) is ∙ has.journal) h) c.answer_made-answer.ensures

pub returns-in-Err-RefusedAt : goal.returns-in-Err-RefusedAt
returns-in-Err-RefusedAt c =
    let stopped : first_refused c.args.read.now.program c.with_version-settings.result c.as_slice.result.now ≡ Some c.in-Err-RefusedAt.entry =
    subst (IsReplayStop c.args.read.now.program c.with_version-settings.result c.as_slice.result.now) c.in-Err-RefusedAt.field-0-is
    (subst (ReplayGives c.args.read.now.program c.with_version-settings.result c.as_slice.result.now) c.in-Err-RefusedAt.is c.in_ok-replayed.ensures) in
    IfOk-weaker c.refused.result _ _
    (λ a h. trace_told IsImaged c.args.settings c.args.read.now c.with_version-settings.result c.as_slice.result.now (Some c.in-Err-RefusedAt.entry) a
    c.with_version-settings.ensures c.as_slice.ensures
    (refused_first c.args.read.now.program c.with_version-settings.result c.as_slice.result.now c.in-Err-RefusedAt.entry stopped)
    (subst (λ (r : RefusedAt). Refuses (Entry r) a) c.in-Err-RefusedAt.entry-is h)) c.refused.ensures
