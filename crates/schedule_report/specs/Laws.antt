-- What the pairs of one whole run say about all schedules.
use Rattle.std.specs.Prelude.{◌≡◌, ℕ, Option, Some, None, List}
use Rattle.race_report.specs.below.hh_lang.{ProgramText}
use Rattle.race_report.specs.below.run_trace.{EntryValue, SettingsValue, field_limit}
use Rattle.hh_model.specs.declared.data.End.{End}
use Rattle.hh_model.specs.declared.data.End.TheVariants.{Done}
use Rattle.hh_model.specs.Step.{run}
use Rattle.run_ledger.specs.Journals.{machine_of, tasks_of}
use Rattle.schedule_laws.specs.Ordered.{IsOrdered}
use Rattle.schedule_laws.specs.Prints.{PrintsAreOrdered, prints}
use Rattle.schedule_laws.specs.SameResult.{SameResult}
use Rattle.schedule_laws.specs.Laws.{CanGoOn}
use Rattle.schedule_report.specs.declared.data.Clashes.{Clashes}
use Rattle.schedule_report.specs.declared.data.Verdict.{Verdict}
use Rattle.schedule_report.specs.declared.data.Verdict.TheVariants.{Agree, AgreeButForPrints, MayDiffer}
use Rattle.schedule_report.specs.Schedules.{AreClashes, EndsByMain, verdict_of}

-- the prints of a run are in order
abbrev pub HasPrintsOrdered : ProgramText → ℕ → List ℕ → Type 0
HasPrintsOrdered p limit ts = PrintsAreOrdered (run p limit ts).edges (prints p limit ts)

-- what each verdict means: the run is in order, and so are its prints; it is, except its prints; or it isn't
abbrev pub Means : ProgramText → ℕ → List ℕ → Verdict → Type 0
Means p limit ts Agree = IsOrdered p limit ts × HasPrintsOrdered p limit ts
Means p limit ts AgreeButForPrints = IsOrdered p limit ts × (HasPrintsOrdered p limit ts → ⊥)
Means p limit ts (MayDiffer n) = IsOrdered p limit ts → ⊥

-- the verdict of a run's pairs is the right one
abbrev pub VerdictsAreExact : Type 0
VerdictsAreExact =
    (p : ProgramText) (s : SettingsValue) (journal : List EntryValue) (c : Clashes)
    → AreClashes p s journal c → Means p (field_limit s.version) (tasks_of journal) (verdict_of c)

-- a verdict that schedules agree, and one without an exception
abbrev pub SaysAgree : Verdict → Type 0
SaysAgree Agree = Unit {0}
SaysAgree AgreeButForPrints = Unit {0}
SaysAgree (MayDiffer n) = ⊥

-- the run by us ends by the return of main with the same result as that by ts, with the same outputs if the verdict
-- makes no exception; or it hasn't ended, and can continue
abbrev pub Follows : ProgramText → ℕ → List ℕ → Verdict → List ℕ → Option End → Type 0
Follows p limit ts v us None = CanGoOn p limit ts us
Follows p limit ts v us (Some e) = (e ≡ Done) × SameResult p limit ts us × (v ≡ Agree → (run p limit us).outputs ≡ (run p limit ts).outputs)

-- if the verdict of one whole run is that schedules agree, every other one of the program with the same limit of fields
-- agrees with it
abbrev pub AgreeingRunsSpeakForAll : Type 0
AgreeingRunsSpeakForAll =
    (p : ProgramText) (s s' : SettingsValue) (journal journal' : List EntryValue) (c : Clashes)
    → EndsByMain p s journal → AreClashes p s journal c → SaysAgree (verdict_of c) → field_limit s'.version ≡ field_limit s.version
    → Follows p (field_limit s.version) (tasks_of journal) (verdict_of c) (tasks_of journal') (machine_of p s' journal').end
