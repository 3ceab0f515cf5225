-- A trace without races is never one of an entangled run.
use Rattle.command_answers.proofs.Common.{◌≡◌, ◌≢◌, ◌∙◌, ℕ, List, [], ◌∷◌, sym, subst, Option, Some, None, ProgramText, Done as IsDone, Trapped, Entangled as Stopped, EntryValue, SettingsValue, field_limit, InputFault, Source as InProgram, BadLine, TraceInput, input_fault, settings_for, RefusedAt, RunEnd, Machine, Fuel as FuelEnd, Pool as PoolEnd, end_of, machine_of, refused_as_run, tasks_of, Race, accesses, IsReport, raceless_journals_are_disentangled, refusal_of, Options, CommandStatus, Answer, status_of_end, AnswersTrace, IsRaceAnswer, IsReplay, IsText, Refuses, WhereTraced, WhereWhole, races_status, RacelessAreDisentangled}
use Rattle.command_answers.specs.declared.answer.CommandStatus.TheVariants.{Done, Entangled}
use Rattle.command_answers.proofs.Alike.{same_input}

-- a text with another status isn't one that is done
no_text : (named : CommandStatus) (bytes : List ℕ) (a : Answer) → named ≢ Done → IsText named bytes a → a.status ≡ Done → ⊥
no_text named bytes a other h done = other (sym h.status ∙ done)

no_fault : (f : InputFault) (a : Answer) → Refuses (refusal_of f) a → a.status ≡ Done → ⊥
no_fault (InProgram r) a h done = no_text _ _ a (λ e. cc) h done
no_fault (BadLine n) a h done = no_text _ _ a (λ e. cc) h done

none_told : (races : List Race) → races_status races ≡ Done → races ≡ []
none_told [] e = cc
none_told (r ∷ rs) e = absurd cc

-- a run with an empty report of races never ends as entangled
module _ (p : ProgramText) (s : SettingsValue) (entries : List EntryValue) (report : IsReport (machine_of p s entries).edges (accesses p (field_limit s.version) (tasks_of entries)) []) where
  never : (e : RunEnd) → end_of p s entries ≡ Some e → status_of_end e ≡ Entangled → ⊥
  never (Machine IsDone) h is = absurd cc
  never (Machine (Trapped kind t at)) h is = absurd cc
  never (Machine (Stopped t owner)) h is = raceless_journals_are_disentangled p s entries t owner report h
  never (FuelEnd steps) h is = absurd cc
  never (PoolEnd chunks) h is = absurd cc

module _ (o : Options) (a b : Answer) (done : a.status ≡ Done) (stopped : b.status ≡ Entangled) where
  runs : (p : ProgramText) (s : SettingsValue) (entries : List EntryValue) → IsRaceAnswer p s entries a → IsReplay o p s entries b → ⊥
  runs p s entries h k =
      let none : h.races ≡ [] = none_told h.races (sym h.text.status ∙ done) in
      let report : IsReport (machine_of p s entries).edges (accesses p (field_limit s.version) (tasks_of entries)) [] =
      subst (λ (rs : List Race). IsReport (machine_of p s entries).edges (accesses p (field_limit s.version) (tasks_of entries)) rs) none h.report in
      never p s entries report k.0.end (subst (λ (j : List EntryValue). end_of p s j ≡ Some k.0.end) k.1 k.0.ended) (sym k.0.status ∙ stopped)

  wholes : (p : ProgramText) (s : SettingsValue) (entries : List EntryValue) (r : Option RefusedAt) → WhereWhole (IsRaceAnswer p s entries) r a → WhereWhole (IsReplay o p s entries) r b → ⊥
  wholes p s entries None h k = runs p s entries h k
  wholes p s entries (Some r) h k = no_text _ _ a (λ e. cc) h done

  traces : (input : List ℕ) (f : Option InputFault) → WhereTraced (AnswersTrace IsRaceAnswer o.settings) input f a → WhereTraced (AnswersTrace (IsReplay o) o.settings) input f b → ⊥
  traces input (Some f) h k = no_fault f a h done
  traces input None h k =
      let t = h.0 in
      let l = settings_for o.settings t in
      wholes t.program l t.trace.entries (refused_as_run t.program l t.trace.entries) h.2
      (subst (λ (u : TraceInput). AnswersTrace (IsReplay o) o.settings u b) (same_input input k.0 t k.1 h.1) k.2)

pub raceless_are_disentangled : RacelessAreDisentangled
raceless_are_disentangled = λ o input a b h done k stopped.
    traces o a b done stopped input (input_fault input) h k
