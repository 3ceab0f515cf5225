-- A report without findings names no site.
use Rattle.std.proofs.Common.{◌≡◌, ◌==◌, ◌∙◌, ℕ, Bool, true, false, List, [], ◌∷◌, length, refl, ap, sym, arith, Option, Result, Ok, Err}
use Rattle.std.proofs.lemmas.Bool.Decides.{nat_tests}
use Rattle.std.specs.Prelude.{IfOk, ◌&&◌}
use Rattle.log_report.specs.Labels.{Names}
use Rattle.log_report.specs.declared.told.LogReport.{LogReport}
use Rattle.log_report.specs.declared.told.ToldRace.{ToldRace}
use Rattle.log_report.specs.declared.told.ToldUse.{ToldUse}
use Rattle.log_report.specs.declared.heaps.LogHeaps.{LogHeaps}
use Rattle.log_report.specs.declared.report.Detail.{Detail}
use Rattle.log_report.specs.declared.report.Detail.TheVariants.{Merged, Locations}
use Rattle.log_report.specs.LogReport.{report_text}
use Rattle.log_json.specs.Values.{report_json}
use Rattle.log_request.specs.declared.view.LogView.{LogView}
use Rattle.log_request.specs.declared.view.ReportForm.{ReportForm}
use Rattle.log_request.specs.declared.view.ReportForm.TheVariants.{Lines, Json}
use Rattle.log_replies.specs.Shown.{text_as, view_text}
use Rattle.log_replies.specs.Status.{is_quiet}

and_left : (a b : Bool) → (a && b) ≡ true → a ≡ true
and_left true b e = refl
and_left false b e = e

and_right : (a b : Bool) → (a && b) ≡ true → b ≡ true
and_right true b e = e
and_right false b e = absurd (cc)

none : {X : Type 0} (xs : List X) → (length xs == 0) ≡ true → xs ≡ []
none [] e = refl
none (x ∷ xs) e = absurd (grind (arith, nat_tests, e))

-- the report with these findings and no others
abbrev with_findings : LogReport → List ToldRace → List ToldUse → List ToldUse → List ToldUse → LogReport
with_findings r races reads uses stale = record { races = races; entangled_reads = reads; entangled_uses = uses; stale_uses = stale; work = r.work; span = r.span; heaps = r.heaps; left_out = r.left_out }

module _ (names others : Names) (r : LogReport) where
  lines_same : (detail : Detail) → report_text names detail (with_findings r [] [] [] []) ≡ report_text others detail (with_findings r [] [] [] [])
  lines_same Merged = refl
  lines_same Locations = refl

  json_same : (detail : Detail) → report_json names detail (with_findings r [] [] [] []) ≡ report_json others detail (with_findings r [] [] [] [])
  json_same Merged = refl
  json_same Locations = refl

  form_same : (form : ReportForm) (view : LogView) → text_as form view names (with_findings r [] [] [] []) ≡ text_as form view others (with_findings r [] [] [] [])
  form_same Lines view = lines_same view.detail
  form_same Json view = json_same view.detail

  by_findings : (view : LogView) (races : List ToldRace) (reads uses stale : List ToldUse) → races ≡ [] → reads ≡ [] → uses ≡ [] → stale ≡ []
      → view_text names view (with_findings r races reads uses stale) ≡ view_text others view (with_findings r races reads uses stale)
  by_findings view races reads uses stale e f g h = rw (e, f, g, h) (form_same view.form view)

  -- whatever the names, its text is the same
  pub quiet_text : (view : LogView) → is_quiet r ≡ true → view_text names view r ≡ view_text others view r
  quiet_text view q =
      let a = length r.races == 0 in
      let b = length r.entangled_reads == 0 in
      let c = length r.entangled_uses == 0 in
      let d = length r.stale_uses == 0 in
      let three = and_left ((a && b) && c) d q in
      let two = and_left (a && b) c three in
      by_findings view r.races r.entangled_reads r.entangled_uses r.stale_uses
      (none r.races (and_left a b two)) (none r.entangled_reads (and_right a b two)) (none r.entangled_uses (and_right (a && b) c three)) (none r.stale_uses (and_right ((a && b) && c) d q))
