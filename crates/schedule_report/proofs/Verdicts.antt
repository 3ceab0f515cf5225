-- Verdicts are exact, and hold for all schedules.
use Rattle.schedule_report.proofs.Common.{◌≡◌, ℕ, ◌+◌, ◌-◌, ◌^◌, ◌<◌, ◌==◌, min, lit<, cond, Option, Some, None, List, [], ◌∷◌, length, refl, ap, sym, subst, ◌∙◌, arith, not_zero, ProgramText, EntryValue, SettingsValue, field_limit, End, Done, Edge, run, machine_of, tasks_of, FieldAccess, Race, Prints, accesses, looked, swaps_of, machine_ended, IsOrdered, SpeaksUp, every_run_goes_on, ordered_is_race_free, every_end_agrees, Clashes, Verdict, Agree, AgreeButForPrints, MayDiffer, AreClashes, verdict_of, AgreeingRunsSpeakForAll, Follows, HasPrintsOrdered, Means, SaysAgree, VerdictsAreExact}
use Rattle.schedule_report.proofs.Empty.{empty_report, none_races}
use Rattle.schedule_report.proofs.Swapped.{no_contention, none_contends}
use Rattle.schedule_report.proofs.Printed.{no_prints_race, prints_in_order}

module _ (p : ProgramText) (s : SettingsValue) (journal : List EntryValue) (c : Clashes) (A : AreClashes p s journal c) where
  abbrev limit : ℕ
  limit = field_limit s.version

  abbrev ts : List ℕ
  ts = tasks_of journal

  abbrev edges : List Edge
  edges = (run p limit ts).edges

  abbrev all : List FieldAccess
  all = accesses p limit ts

  in_order : c.races ≡ [] → c.swaps ≡ [] → IsOrdered p limit ts
  in_order er es =
      (ordered_is_race_free p limit ts).1 (
        none_races edges all c.races A.races er,
        no_contention edges all (none_races edges (swaps_of all) c.swaps A.swaps es),
      )

  no_races : IsOrdered p limit ts → c.races ≡ []
  no_races h = empty_report edges all c.races A.races ((ordered_is_race_free p limit ts).0 h).0

  no_swaps : IsOrdered p limit ts → c.swaps ≡ []
  no_swaps h = empty_report edges (swaps_of all) c.swaps A.swaps (none_contends edges all ((ordered_is_race_free p limit ts).0 h).1)

  no_prints : HasPrintsOrdered p limit ts → c.prints ≡ []
  no_prints h = empty_report edges (looked Prints p limit ts) c.prints A.prints (no_prints_race p limit ts h)

  some_count : (k : ℕ) → 0 < k → 0 < min k (2 ^ 64 - 1)
  some_count k lt = let big : 0 < 2 ^ 64 - 1 = lit< tt in omega arith

  abbrev by_counts : ℕ → ℕ → Verdict
  by_counts n k = cond (n == 0) (cond (k == 0) Agree AgreeButForPrints) (MayDiffer n)

  differs : (n k : ℕ) → 0 < n → (IsOrdered p limit ts → ⊥) → Means p limit ts (by_counts n k)
  differs n k lt h = subst (λ b. Means p limit ts (cond b (cond (k == 0) Agree AgreeButForPrints) (MayDiffer n))) (sym (not_zero n lt)) h

  prints_differ : (k : ℕ) → 0 < k → IsOrdered p limit ts → (HasPrintsOrdered p limit ts → ⊥) → Means p limit ts (by_counts 0 k)
  prints_differ k lt o h = subst (λ b. Means p limit ts (cond b Agree AgreeButForPrints)) (sym (not_zero k lt)) (o, h)

  means_by_races : (rs ss ps : List Race) → c.races ≡ rs → c.swaps ≡ ss → c.prints ≡ ps → Means p limit ts (by_counts (min (length rs + length ss) (2 ^ 64 - 1)) (length ps))
  means_by_races (r ∷ rs) ss ps er es ep = differs (min (length (r ∷ rs) + length ss) (2 ^ 64 - 1)) (length ps) (some_count (length (r ∷ rs) + length ss) (omega arith)) (λ h. (let e : c.races ≡ [] = no_races h in cc))
  means_by_races [] (x ∷ ss) ps er es ep = differs (min (0 + length (x ∷ ss)) (2 ^ 64 - 1)) (length ps) (some_count (0 + length (x ∷ ss)) (omega arith)) (λ h. (let e : c.swaps ≡ [] = no_swaps h in cc))
  means_by_races [] [] (x ∷ ps) er es ep = prints_differ (length (x ∷ ps)) (omega arith) (in_order er es) (λ h. (let e : c.prints ≡ [] = no_prints h in cc))
  means_by_races [] [] [] er es ep = (in_order er es, prints_in_order p limit ts (none_races edges (looked Prints p limit ts) c.prints A.prints ep))

  exact : Means p limit ts (verdict_of c)
  exact = means_by_races c.races c.swaps c.prints refl refl refl

pub verdicts_are_exact : VerdictsAreExact
verdicts_are_exact p s journal c A = exact p s journal c A

order_meant : (p : ProgramText) (limit : ℕ) (ts : List ℕ) (v : Verdict) → Means p limit ts v → SaysAgree v → IsOrdered p limit ts
order_meant q k us Agree m h = m.0
order_meant q k us AgreeButForPrints m h = m.0
order_meant q k us (MayDiffer n) m h = absurd h

prints_meant : (p : ProgramText) (limit : ℕ) (ts : List ℕ) (v : Verdict) → Means p limit ts v → v ≡ Agree → HasPrintsOrdered p limit ts
prints_meant q k us Agree m e = m.1
prints_meant q k us AgreeButForPrints m e = absurd cc
prints_meant q k us (MayDiffer n) m e = absurd cc

pub agreeing_runs_speak_for_all : AgreeingRunsSpeakForAll
agreeing_runs_speak_for_all p s s' journal journal' c whole A says same = agreeing_runs_speak_for_all_by_cases (machine_of p s' journal').end refl
  where
    meant : Means p (field_limit s.version) (tasks_of journal) (verdict_of c)
    meant = verdicts_are_exact p s journal c A

    up : SpeaksUp p (field_limit s.version) (tasks_of journal)
    up = record {
      done = machine_ended p s journal Done whole;
      ordered = order_meant p (field_limit s.version) (tasks_of journal) (verdict_of c) meant says;
    }

    agreeing_runs_speak_for_all_here : (run p (field_limit s.version) (tasks_of journal')).end ≡ (machine_of p s' journal').end
    agreeing_runs_speak_for_all_here = ap (λ k. (run p k (tasks_of journal')).end) (sym same)

    agreeing_runs_speak_for_all_by_cases : (o : Option End) → (machine_of p s' journal').end ≡ o → Follows p (field_limit s.version) (tasks_of journal) (verdict_of c) (tasks_of journal') o
    agreeing_runs_speak_for_all_by_cases None is = every_run_goes_on p (field_limit s.version) (tasks_of journal) (tasks_of journal') up (agreeing_runs_speak_for_all_here ∙ is)
    agreeing_runs_speak_for_all_by_cases (Some e) is =
        let r = every_end_agrees p (field_limit s.version) (tasks_of journal) (tasks_of journal') e up (agreeing_runs_speak_for_all_here ∙ is) in
        (r.0, r.1, λ v. r.1.outputs (prints_meant p (field_limit s.version) (tasks_of journal) (verdict_of c) meant v))
