use Rattle.std.proofs.Common.{◌≡◌, ◌∙◌, ℕ, true, sym, Result, Ok, Err}
use Rattle.std.specs.Prelude.{IfOk}
use Rattle.log_json.specs.below.log_sites.{name_of, site_name}
use Rattle.log_report.specs.Labels.{Names}
use Rattle.log_report.specs.declared.told.LogReport.{LogReport}
use Rattle.log_request.specs.declared.view.LogView.{LogView}
use Rattle.log_replies.specs.Shown.{view_text}
use Rattle.log_replies.specs.Status.{is_quiet}
use Rattle.log_replies.proofs.Quiet.{quiet_text}
use Rattle.log_replies.proofs.report.names_for.Goals as goal

-- a report's text is the same by the same names
by_names : {X E : Type 0} (name : X → Names) (r : Result X E) (other : Names) (view : LogView) (report : LogReport) → IfOk r (λ x. (s : ℕ) → name x s ≡ other s) → IfOk r (λ x. view_text (name x) view report ≡ view_text other view report)
by_names name (Ok x) other view report h = λ i. view_text (λ s. h s i) view report
by_names name (Err e) other view report h = tt

-- that of one without findings is the same by any names
by_any : {X E : Type 0} (name : X → Names) (r : Result X E) (other : Names) (view : LogView) (report : LogReport) → is_quiet report ≡ true → IfOk r (λ x. view_text (name x) view report ≡ view_text other view report)
by_any name (Ok x) other view report quiet = quiet_text (name x) other report view quiet
by_any name (Err e) other view report quiet = tt

pub returns-then-is_quiet : goal.returns-then-is_quiet
returns-then-is_quiet c = by_any name_of c.site_names.result (site_name c.args.texts.now) c.args.view.now c.args.report.now (sym c.is_quiet.ensures ∙ c.if-is_quiet.true)

pub returns : goal.returns
returns c = by_names name_of c.site_names-2.result (site_name c.args.texts.now) c.args.view.now c.args.report.now c.site_names-2.ensures
