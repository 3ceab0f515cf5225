-- The report on a run's log tells the run.
use Rattle.std.proofs.Common.{◌≡◌, ◌<◌, ◌≤◌, ℕ, true, All, List, length, map, refl, ap, sym, subst, ◌∙◌, arith}
use Rattle.std.proofs.lemmas.List.{length-map}
use Rattle.std.proofs.lemmas.List.Sorted.{Contains-permutation, IsPermutation-sym}
use Rattle.std.specs.Prelude.{◌↔◌}
use Rattle.plain_vec.specs.Members.{In}
use Rattle.plain_vec.proofs.Members.{contains_from_in, in_from_contains}
use Rattle.plain_vec.proofs.Places.{in_map, map_in}
use Rattle.log_replies.specs.Shown.{ReportsFindings, log_extent}
use Rattle.log_replies.specs.below.log_findings.{AreFindingsOf, walk_of}
use Rattle.log_replies.specs.below.log_report.{LogReport, ToldRace, ToldUse}
use Rattle.log_replies.specs.below.log_told.{ToldFindings, told_race, told_use}
use Rattle.log_request.specs.declared.view.LogView.{LogView}
use Rattle.run_size_laws.specs.below.run_limit_laws.{IsSmallRun, events_of, run_texts}
use Rattle.run_size_laws.specs.below.run_trace.{IsEntry}
use Rattle.run_size_laws.proofs.RunSizes.{run_logs_are_small}
use Rattle.run_stop_laws.specs.Stops.{AreFindingsOfRun}
use Rattle.run_stop_laws.specs.below.run_read_laws.{EntryValue, ProgramText, SettingsValue, is_legal}
use Rattle.run_stop_laws.proofs.Stops.{logs_report_stops}
use Rattle.run_verdict_laws.specs.Reported.{IsFoundAt, RunRacesAt}
use Rattle.run_verdict_laws.proofs.Reported.{logs_report_races}
use Rattle.whole_call.specs.declared.reply.Reply.{Reply}
use Rattle.run_answer_laws.specs.Reports.{HasRaceAt, WasStopped, ReportsTellRuns, TellsRun}
use Rattle.run_answer_laws.proofs.Answers.{run_logs_are_reported}

module _ (p : ProgramText) (s : SettingsValue) (journal : List EntryValue) (legal : is_legal p s journal ≡ true) (entries : All IsEntry journal) (small : IsSmallRun p journal)
    (view : LogView) (reply : Reply) (R : ReportsFindings (run_texts p s journal) view reply) where
  abbrev texts : List (List ℕ)
  texts = run_texts p s journal

  abbrev report : LogReport
  report = R.report

  abbrev told : ToldFindings
  told = R.reported.told

  found : AreFindingsOf texts R.tasks told
  found = R.reported.found

  -- RACES

  races_same : told.races ≡ map (told_race texts) found.races
  races_same = ap (λ (t : ToldFindings). t.races) found.told_is

  race_found : (block x : ℕ) → HasRaceAt report block x → IsFoundAt found.races block x
  race_found block x h =
      let r : ToldRace = h.0 in
      let sorted = R.reported.races.same in
      let i : In told.races r = in_from_contains told.races r (Contains-permutation report.races told.races r (IsPermutation-sym told.races report.races sorted) (contains_from_in report.races r h.1)) in
      let f = map_in (told_race texts) found.races r (subst (λ rs. In rs r) races_same i) in (
        f.0,
        f.1,
        (
          ap (λ (q : ToldRace). q.block) f.2 ∙ h.2,
          subst (λ (q : ToldRace). q.start ≤ x) (sym f.2) h.3,
          subst (λ (q : ToldRace). x < q.end) (sym f.2) h.4,
        ),
      )

  found_race : (block x : ℕ) → IsFoundAt found.races block x → HasRaceAt report block x
  found_race block x h =
      let r : ToldRace = told_race texts h.0 in
      let i : In told.races r = subst (λ rs. In rs r) (sym races_same) (in_map (told_race texts) found.races h.0 h.1) in (
        r,
        in_from_contains report.races r (Contains-permutation told.races report.races r R.reported.races.same (contains_from_in told.races r i)),
        h.2.0,
        h.2.1,
        h.2.2,
      )

  verdict : (block x : ℕ) → IsFoundAt found.races block x ↔ RunRacesAt p s journal block x
  verdict =
      let nested = R.are.nested in
      logs_report_races p s journal legal small (log_extent texts) R.tasks (walk_of R.tasks) found.races R.are
      (record { small = nested.small; nested = nested.nested; below = nested.below; some = nested.some; order = refl }) refl found.are_races

  -- ENTANGLED READS

  stops : AreFindingsOfRun p s journal (events_of texts) found.findings
  stops = logs_report_stops p s journal legal small (log_extent texts) R.tasks found.findings R.are found.are_findings

  reads_same : report.entangled_reads ≡ map (told_use texts) found.findings.reads
  reads_same = R.reported.reads ∙ ap (λ (t : ToldFindings). t.entangled_reads) found.told_is

  read_stops : (u : ToldUse) × In report.entangled_reads u → WasStopped p s journal
  read_stops h =
      let f = map_in (told_use texts) found.findings.reads h.0 (subst (λ us. In us h.0) reads_same h.1) in
      let stop = stops.reads f.0 f.1 in
      (stop.reader, stop.owner, stop.ended)

  stop_read : WasStopped p s journal → (u : ToldUse) × In report.entangled_reads u
  stop_read h =
      let f = stops.stopped h.0 h.1 h.2 in
      (told_use texts f.0, subst (λ us. In us (told_use texts f.0)) (sym reads_same) (in_map (told_use texts) found.findings.reads f.0 f.1))

  one_read : length report.entangled_reads ≤ 1
  one_read =
      let same : length report.entangled_reads ≡ length found.findings.reads = ap length reads_same ∙ length-map found.findings.reads (told_use texts) in
      let once = stops.once in
      omega (arith, same, once)

  tells : TellsRun p s journal report
  tells = record {
    races = λ block x. (λ h. (verdict block x).0 (race_found block x h), λ h. found_race block x ((verdict block x).1 h));
    stopped = (read_stops, stop_read);
    once = one_read;
    no_uses = R.reported.uses ∙ (ap (λ (t : ToldFindings). t.entangled_uses) found.told_is ∙ ap (map (told_use texts)) stops.no_uses);
    work = R.reported.cost.work_is ∙ (run_logs_are_small p s journal legal entries small (log_extent texts) R.tasks R.are).work;
    none_stale = R.reported.stale ∙ (ap (λ (t : ToldFindings). t.stale_uses) found.told_is ∙ ap (map (told_use texts)) stops.none_stale);
  }

pub reports_tell_runs : ReportsTellRuns
reports_tell_runs p s journal legal entries small names view reply shown =
    let R = run_logs_are_reported p s journal legal entries small names view reply shown in
    (R.report, R.says, tells p s journal legal entries small view reply R)
