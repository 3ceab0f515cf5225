-- The races found in a run's log are those of the run.
use Rattle.std.proofs.Common.{◌≡◌, ◌≤◌, ℕ, true, List, length, sym, subst, arith}
use Rattle.log_races.specs.Touches.{touches_of}
use Rattle.log_verdict.specs.Verdict.{AreVerdicts, IsRacing, LogRaceAt}
use Rattle.log_walk.specs.Value.{WalkValue}
use Rattle.race_scan.specs.declared.cells.FoundRace.{FoundRace}
use Rattle.run_graph_laws.proofs.RunTold.{logs_tell_tasks, logs_are_cut_runs}
use Rattle.run_limit_laws.specs.Limits.{run_texts}
use Rattle.run_limit_laws.specs.below.log_text_laws.{events_of}
use Rattle.run_limit_laws.proofs.Lines.{logs_tell_runs}
use Rattle.run_race_laws.specs.below.run_turn_laws.{ProgramText, EntryValue, SettingsValue, is_legal, machine_of, tasks_of, events_told, lines_of}
use Rattle.run_race_laws.proofs.Races.{logs_tell_fields, logs_tell_races}
use Rattle.told_race_laws.specs.ToldRaces.{IsToldRacing}
use Rattle.told_race_laws.specs.below.told_graph_laws.{Event, IsLog}
use Rattle.told_race_laws.proofs.ToldRaces.{log_races_are_told}
use Rattle.run_verdict_laws.specs.Reported.{IsFoundAt, RunRacesAt, LogsReportRaces}

-- FOUND AND RACING

module _ (walk : WalkValue) (touches : _) (races : List FoundRace) (V : AreVerdicts walk touches races) (block x : ℕ) where
  found_races : IsFoundAt races block x → IsRacing walk touches block x
  found_races (f, i, at) = let F = V.sound f x i at.1 at.2 in (F.first, F.second, subst (λ b. LogRaceAt walk touches b x F.first F.second) at.0 F.race)

  races_found : IsRacing walk touches block x → IsFoundAt races block x
  races_found race = V.complete block x race

-- TOLD RACES AND THE RUN'S

at_location : (events : List Event) (block x block' x' : ℕ) → block ≡ block' → x ≡ x' → IsToldRacing events block x → IsToldRacing events block' x'
at_location events block x block' x' eb ex race = subst (λ b. IsToldRacing events b x') eb (subst (IsToldRacing events block) ex race)

module _ (p : ProgramText) (s : SettingsValue) (journal : List EntryValue) (legal : is_legal p s journal ≡ true) (few : length (tasks_of journal) ≤ 1000000000) (block x : ℕ) where
  abbrev events : List Event
  events = events_told (lines_of p s journal)

  told_run : IsToldRacing events block x → RunRacesAt p s journal block x
  told_run (a, b, race) =
      let f = logs_tell_fields p s journal legal a race.first block x race.covers_first in
      record {
        field = f.0;
        there = f.1;
        at = f.2;
        race = (logs_tell_races p s journal legal few f.0 f.1).1 (at_location events block x _ _ (sym f.2.0) (sym f.2.1) (a, b, race));
      }

  run_told : RunRacesAt p s journal block x → IsToldRacing events block x
  run_told r = at_location events _ _ block x r.at.0 r.at.1 ((logs_tell_races p s journal legal few r.field r.there).0 r.race)

pub logs_report_races : LogsReportRaces
logs_report_races p s journal legal small extent log walk races is w same verdicts block x =
    let steps = small.steps in
    let few : length (tasks_of journal) ≤ 1000000000 = omega (arith, steps) in
    let T = logs_tell_tasks p s journal legal in
    let tells : events_of (run_texts p s journal) ≡ events_told (lines_of p s journal) = (logs_tell_runs p s journal legal small).tells in
    let told = log_races_are_told (length (machine_of p s journal).tasks) (events_told (lines_of p s journal)) extent log walk T.tasks T.unreleased (logs_are_cut_runs p s journal legal) (subst (λ es. IsLog es extent log) tells is) w same block x in
    let V = subst (λ es. AreVerdicts walk (touches_of es log walk.order) races) tells verdicts in (
      λ f. told_run p s journal legal few block x (told.0 (found_races walk (touches_of (events_told (lines_of p s journal)) log walk.order) races V block x f)),
      λ r. races_found walk (touches_of (events_told (lines_of p s journal)) log walk.order) races V block x (told.1 (run_told p s journal legal few block x r)),
    )
