-- The entangled and stale lines of a run's log: the read on which it was stopped, and none else.
use Rattle.std.proofs.Common.{◌≡◌, ◌<◌, ◌≤◌, ◌+◌, ◌-◌, ℕ, zero, suc, true, Option, Some, List, [], ◌∷◌, ◌++◌, length, map, slice_get, inl, inr, refl, ap, sym, subst, ◌∙◌, arith}
use Rattle.std.specs.Prelude.{◌↔◌}
use Rattle.std.specs.List.Sorted.{IsStrictlyIncreasing}
use Rattle.std.proofs.lemmas.Bool.{both_ways, cases_lt}
use Rattle.std.proofs.lemmas.Option.{same_Some}
use Rattle.plain_vec.proofs.Members.{got_in, got_front, got_back}
use Rattle.plain_vec.proofs.Options.{none_some}
use Rattle.plain_vec.proofs.Places.{got_middle, in_got}
use Rattle.run_graph_laws.proofs.RunTold.{logs_tell_tasks, logs_are_cut_runs}
use Rattle.run_limit_laws.specs.Limits.{run_texts}
use Rattle.run_limit_laws.specs.below.log_text_laws.{events_of}
use Rattle.run_limit_laws.proofs.Lines.{logs_tell_runs}
use Rattle.run_race_laws.proofs.Races.{few_objects, same_names, walks}
use Rattle.run_read_laws.specs.Reads.{AreBlocksTold, AreReadsTold, IsInTime, IsStoppedAtRead}
use Rattle.run_read_laws.specs.below.hh_model.{Entangled, MachineState, Name, Object, object_at, owner_of, precedes, start}
use Rattle.run_read_laws.specs.below.run_log_laws.{ProgramText, in_log}
use Rattle.run_read_laws.specs.below.run_turn_laws.{EntryValue, SettingsValue, block_of, events_told, field_limit, is_legal, lines_of, machine_of, tasks_of}
use Rattle.run_read_laws.proofs.Along.{logs_tell_reads}
use Rattle.run_read_laws.proofs.Ends.{run_ended}
use Rattle.run_read_laws.proofs.below.hh_model.{IsForkJoinState, run_is_fork_join_state, start_is_fork_join_state}
use Rattle.run_read_laws.proofs.below.race_report.{machine_ended}
use Rattle.told_birth_laws.specs.ToldBirths.{IsToldEntangled}
use Rattle.told_birth_laws.specs.below.log_births.{AreFindings, Finding, Findings, IsEntangled, released, used, yielded}
use Rattle.told_birth_laws.specs.below.plain_vec.{In}
use Rattle.told_birth_laws.specs.below.told_graph_laws.{Act, Event, Extent, IsLog, LogTasks, StrandPrecedes, turns_told}
use Rattle.told_birth_laws.specs.below.told_graph_laws as acts
use Rattle.told_birth_laws.proofs.ToldBirths.{log_births_are_told}
use Rattle.run_stop_laws.specs.Stops.{AreFindingsOfRun, IsStopAt, LogsReportStops}

-- all at one place, in ascending order
one_at_most : (found : List Finding) (place : ℕ) → IsStrictlyIncreasing (map (λ (f : Finding). f.line) found) → ((f : Finding) → In found f → f.line ≡ place) → length found ≤ 1
one_at_most [] place up at = omega arith
one_at_most (f ∷ []) place up at = omega arith
one_at_most (f ∷ g ∷ more) place up at =
    let first : f.line ≡ place = at f (inl refl) in
    let second : g.line ≡ place = at g (inr (inl refl)) in
    let lt : f.line < g.line = up 0 (omega arith) in
    absurd (omega (arith, first, second, lt))

all_absent : (found : List Finding) → ((f : Finding) → In found f → ⊥) → found ≡ []
all_absent [] none = refl
all_absent (f ∷ more) none = absurd (none f (inl refl))

none_at_all : (found : List Finding) → ((f : Finding) → In found f → ⊥) → length found ≤ 1
none_at_all found none = subst (λ fs. length fs ≤ 1) (sym (all_absent found none)) (omega arith)

-- what releases a block is its release
release_of : (a : Act) (block : ℕ) → released a ≡ Some block → a ≡ acts.Release block
release_of (acts.Access x) block e = none_some e
release_of (acts.Yield r) block e = none_some e
release_of (acts.Store r) block e = none_some e
release_of (acts.Birth b l) block e = none_some e
release_of (acts.Release b) block e = ap (λ k. acts.Release k) (same_Some b block e)
release_of (acts.Work k) block e = none_some e
release_of (acts.Spawn c) block e = none_some e
release_of (acts.Join c) block e = none_some e
release_of acts.Finish block e = none_some e

module _ (p : ProgramText) (s : SettingsValue) (journal : List EntryValue) (legal : is_legal p s journal ≡ true) (few : length (tasks_of journal) ≤ 1000000000) where
  abbrev m : MachineState
  m = machine_of p s journal

  abbrev events : List Event
  events = events_told (lines_of p s journal)

  A : AreBlocksTold m events
  A = logs_tell_reads p s journal legal

  K : IsForkJoinState m
  K = run_is_fork_join_state p (start p (field_limit s.version)) (tasks_of journal) (start_is_fork_join_state p (field_limit s.version))

  -- one object for each block
  same_object : (n q : Name) (o r : Object) → object_at m.store n ≡ Some o → object_at m.store q ≡ Some r → block_of n ≡ block_of q → o ≡ r
  same_object n q o r is at e = same_Some o r (sym is ∙ (ap (object_at m.store) (same_names n q (few_objects p s journal legal few n o is) (few_objects p s journal legal few q r at) e) ∙ at))

  abbrev Told : (Act → Option ℕ) → Finding → Type 0
  Told sees f = IsToldEntangled sees events f

  -- what is told as entangled isn't in time
  late : (sees : Act → Option ℕ) (f : Finding) (E : Told sees f) → IsInTime sees m E.sight → ⊥
  late sees f E (n, o, v, R, pr) =
      let b = A.births.just E.birth f.block (got_in events f.other E.birth E.born_there) E.bears in
      let one : block_of b.0 ≡ f.block = same_Some (block_of b.0) f.block (sym b.3 ∙ E.bears) in
      let two : block_of n ≡ f.block = same_Some (block_of n) f.block (sym R.seen ∙ E.is_seen) in
      let same : b.1 ≡ o = same_object b.0 n b.1 o b.2 R.stored (one ∙ sym two) in
      let first : E.birth.strand ≡ in_log o.strand = b.4 ∙ ap (λ (q : Object). in_log q.strand) same in
      E.not_before
      (subst (λ w. StrandPrecedes (turns_told events) w E.sight.strand) (sym first)
      (subst (StrandPrecedes (turns_told events) (in_log o.strand)) (sym R.on)
      ((walks p s journal legal few o.strand v (K.store_of n o R.stored).1 R.begun).0 ((K.tree.right o.strand v).0 pr))))

  module _ (S : IsStoppedAtRead m events) where
    read_there : slice_get events (length S.before) ≡ Some S.read
    read_there = ap (λ es. slice_get es (length S.before)) S.whole ∙ got_middle S.before S.read S.after

    place_behind : (f : Finding) (E : Told yielded f) (k : ℕ) → f.line ≡ length S.before + k → f.line ≡ length S.before
    place_behind f E zero e = omega (arith, e)
    place_behind f E (suc k) e =
        let at : slice_get S.after k ≡ Some E.sight =
        sym (got_back S.before (S.read ∷ S.after) (suc k)) ∙ (ap (slice_get (S.before ++ S.read ∷ S.after)) (sym e) ∙ (ap (λ es. slice_get es f.line) (sym S.whole) ∙ E.seen_here)) in
        none_some (sym (S.last E.sight (got_in S.after k E.sight at)) ∙ E.is_seen)

    place : (f : Finding) → Told yielded f → f.line ≡ length S.before
    place f E = elim (cases_lt f.line (length S.before)) [
      | inl lt ↦
          let at : slice_get S.before f.line ≡ Some E.sight = sym (got_front S.before (S.read ∷ S.after) f.line lt) ∙ (ap (λ es. slice_get es f.line) (sym S.whole) ∙ E.seen_here) in
          absurd (late yielded f E (S.in_time E.sight f.block (got_in S.before f.line E.sight at) E.is_seen))
      | inr ge ↦ place_behind f E (f.line - length S.before) (omega (arith, ge))
    ]

    stop_at : (f : Finding) → Told yielded f → IsStopAt p s journal events f
    stop_at f E =
        let same : S.read ≡ E.sight = same_Some S.read E.sight (sym read_there ∙ (ap (slice_get events) (sym (place f E)) ∙ E.seen_here)) in
        record {
          reader = S.strand.task;
          owner = owner_of m.tasks S.name.task;
          ended = run_ended p s journal (Entangled S.strand.task (owner_of m.tasks S.name.task)) legal S.ended;
          read = E.sight;
          at = E.seen_here;
          by = ap (λ (e : Event). e.strand.task) (sym same) ∙ ap (λ w. w.task) S.is_read.on;
          yields = E.is_seen;
          name = S.name;
          block = same_Some (block_of S.name) f.block (sym S.is_read.seen ∙ (ap (λ (e : Event). yielded e.act) same ∙ E.is_seen));
          owned = refl;
        }

    abbrev stop : ℕ → Finding
    stop other = record { block = block_of S.name; line = length S.before; other = other }

    stop_told : (other : ℕ) × Told yielded (stop other)
    stop_told =
        let b = A.births.all S.name S.object S.is_read.stored in
        let k = in_got events b.0 b.1 in (
          k.0,
          record {
            birth = b.0;
            sight = S.read;
            born_there = k.1;
            seen_here = read_there;
            bears = b.2;
            is_seen = S.is_read.seen;
            not_before = λ h.
                both_ways (precedes m.edges S.object.strand S.strand) S.apart
                ((K.tree.right S.object.strand S.strand).1
                ((walks p s journal legal few S.object.strand S.strand (K.store_of S.name S.object S.is_read.stored).1 S.is_read.begun).1
                (subst (StrandPrecedes (turns_told events) (in_log S.object.strand)) S.is_read.on (subst (λ w. StrandPrecedes (turns_told events) w S.read.strand) b.3 h))));
          },
        )

  module _ (extent : Extent) (log : LogTasks) (found : Findings) (is : IsLog events extent log) (F : AreFindings events log found) where
    told_of : (sees : Act → Option ℕ) (f : Finding) → IsEntangled sees events log f ↔ Told sees f
    told_of sees f =
        log_births_are_told (length m.tasks) events extent log (logs_tell_tasks p s journal legal).tasks (logs_are_cut_runs p s journal legal) is sees f

    told_in : (f : Finding) → In found.reads f → Told yielded f
    told_in f i = (told_of yielded f).0 ((F.reads.are f).0 i)

    no_use : (f : Finding) → In found.uses f → ⊥
    no_use f i =
        let E = (told_of used f).0 ((F.uses.are f).0 i) in
        late used f E (A.uses E.sight f.block (got_in events f.line E.sight E.seen_here) E.is_seen)

    none_released : (i block : ℕ) (e : Event) → slice_get events i ≡ Some e → released e.act ≡ Some block → ⊥
    none_released i block e at h = (logs_tell_tasks p s journal legal).unreleased e (got_in events i e at) block (release_of e.act block h)

    no_stale : (f : Finding) → In found.stale f → ⊥
    no_stale f i = let R = ((F.stale.are f).0 i).released_there in none_released f.other f.block _ R.at R.block

    reported : AreFindingsOfRun p s journal events found
    reported = reported_by A.reads
      where
        reported_by : AreReadsTold m events → AreFindingsOfRun p s journal events found
        reported_by (inl go) =
            let none = λ (f : Finding) (i : In found.reads f). let E = told_in f i in late yielded f E (go.0 E.sight f.block (got_in events f.line E.sight E.seen_here) E.is_seen) in
            record {
              reads = λ f i. absurd (none f i);
              once = none_at_all found.reads none;
              stopped = λ reader owner h. absurd (go.1 reader owner (machine_ended p s journal (Entangled reader owner) h));
              no_uses = all_absent found.uses no_use;
              none_stale = all_absent found.stale no_stale;
            }
        reported_by (inr S) = record {
          reads = λ f i. stop_at S f (told_in f i);
          once = one_at_most found.reads (length S.before) F.reads.ascending (λ f i. place S f (told_in f i));
          stopped = λ reader owner h. let t = stop_told S in (stop S t.0, (F.reads.are (stop S t.0)).1 ((told_of yielded (stop S t.0)).1 t.1));
          no_uses = all_absent found.uses no_use;
          none_stale = all_absent found.stale no_stale;
        }

pub logs_report_stops : LogsReportStops
logs_report_stops p s journal legal small extent log found is F =
    let steps = small.steps in
    let few : length (tasks_of journal) ≤ 1000000000 = omega (arith, steps) in
    let tells : events_of (run_texts p s journal) ≡ events_told (lines_of p s journal) = (logs_tell_runs p s journal legal small).tells in
    subst (λ es. AreFindingsOfRun p s journal es found) (sym tells)
    (reported p s journal legal few extent log found (subst (λ es. IsLog es extent log) tells is) (subst (λ es. AreFindings es log found) tells F))
