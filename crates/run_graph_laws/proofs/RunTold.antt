-- A run's lines tell its tasks.
use Rattle.run_graph_laws.proofs.Common.{◌≡◌, ◌<◌, ◌+◌, ◌%◌, ◌==◌, ◌⊎◌, ℕ, zero, suc, Bool, true, false, Option, Some, None, IfSome, List, [], ◌∷◌, ◌++◌, length, slice_get, inl, inr, refl, ap, sym, subst, ◌∙◌, arith, append-nil, eq-eqb, IsTrue, ◌||◌, list_any, cases_lt, or_cases, or_left, or_right, eqb-true, In, any_from_in, in_from_any, got_within, step, run, start, is_running, can_step, fetched, MachineState, Task, run_push, IsForkJoinState, run_is_fork_join_state, start_is_fork_join_state, can_runs, spawns, is_task, tells, turns_of, TaskTurns, Spawn, Join, ProgramText, Line, Pairs, PairsOf, run_pairs, turns_told, TellEdges, Event, event, Act, act_of, Deed, is_legal, machine_of, tasks_of, act_of_deed, lines_of, EntryValue, SettingsValue, field_limit, events_told, act_told, on_strand, strand_now, turn_events, step_act, told_along, IsCutRun, runs_are_fork_join, legal_ready, logs_tell_edges, fun_ext, AreToldInOrder, turn_event, event_turn, spawn_act, act_spawn, HasEnded, IsRunTold, LogsTellTasks}
use Rattle.run_turn_laws.specs.below.log_lines as acts
use Rattle.run_turn_laws.specs.below.run_deltas as deeds
use Rattle.run_graph_laws.proofs.Added.{AreTold, told_more}
use Rattle.run_graph_laws.proofs.Steps.{IsQuiet, act_adds, turns_add}

-- WHAT STEPS DO TO OBJECTS ENDS NOTHING

quiet_deed : (m : MachineState) (line : ℕ) (d : Deed) → IfSome (act_of_deed m line d) IsQuiet
quiet_deed m line (deeds.Allocates n) = (λ e. cc, λ b e. cc)
quiet_deed m line (deeds.Reads n at (deeds.Reference r)) = (λ e. cc, λ b e. cc)
quiet_deed m line (deeds.Reads n at (deeds.Number k)) = (λ e. cc, λ b e. cc)
quiet_deed m line (deeds.Counts n) = tt
quiet_deed m line (deeds.Writes n at (deeds.Reference r)) = (λ e. cc, λ b e. cc)
quiet_deed m line (deeds.Writes n at (deeds.Number k)) = (λ e. cc, λ b e. cc)
quiet_deed m line (deeds.Swaps n at r swapped) = (λ e. cc, λ b e. cc)
quiet_deed m line (deeds.Freezes n) = tt
quiet_deed m line (deeds.Prints k) = tt

quiet_told : (m : MachineState) (line : ℕ) (d : Option Deed) → IfSome (act_told m line d) IsQuiet
quiet_told m line None = tt
quiet_told m line (Some d) = quiet_deed m line d

-- ALONG A RUN

module _ (p : ProgramText) (limit : ℕ) where
  abbrev M : List ℕ → MachineState
  M ts = run p limit ts

  abbrev Told : List ℕ → List Event → Type 0
  Told ts events = AreTold (M ts).tasks events

  running_is_made : (m : MachineState) (t : ℕ) → is_running (slice_get m.tasks t) ≡ true → t < length m.tasks
  running_is_made m t run = running_is_made_by_cases (slice_get m.tasks t) refl
    where
      running_is_made_by_cases : (o : Option Task) → slice_get m.tasks t ≡ o → t < length m.tasks
      running_is_made_by_cases None e = absurd (let f : false ≡ true = sym (ap is_running e) ∙ run in cc)
      running_is_made_by_cases (Some x) e = got_within m.tasks t x e

  work : (ts : List ℕ) (t k : ℕ) (events : List Event) → is_running (slice_get (M ts).tasks t) ≡ true → Told ts events → Told ts (events ++ event (strand_now (M ts) t) (acts.Work k) ∷ [])
  work ts t k events run A = told_more (M ts).tasks (M ts).tasks events (event (strand_now (M ts) t) (acts.Work k) ∷ []) A (act_adds (M ts).tasks (strand_now (M ts) t) (Some (acts.Work k)) (λ e. cc, λ b e. cc) (running_is_made (M ts) t run) run)

  idle : (ts : List ℕ) (t : ℕ) (events : List Event) → act_of p (M ts) t ≡ None → step p (M ts) t ≡ M ts → Told ts events → Told (ts ++ t ∷ []) events
  idle ts t events none same A = subst (λ (m : MachineState). AreTold m.tasks events) (sym (run_push p (start p limit) ts t ∙ same)) A

  takes : (ts : List ℕ) (t : ℕ) (x : Task) (line : Line) (events : List Event) → can_step (M ts) t ≡ true → slice_get (M ts).tasks t ≡ Some x → fetched p x.top ≡ Some line → Told ts events
      → Told (ts ++ t ∷ []) ((events ++ on_strand (strand_now (M ts) t) (step_act p (M ts) t x line)) ++ turn_events (M ts) (step p (M ts) t) t)
  takes ts t x line events can is at A =
      let m : MachineState = M ts in
      let run : is_running (slice_get m.tasks t) ≡ true = can_runs m t can in
      let K = run_is_fork_join_state p (start p limit) ts (start_is_fork_join_state p limit) in
      let first = told_more m.tasks m.tasks events (on_strand (strand_now m t) (step_act p m t x line)) A (act_adds m.tasks (strand_now m t) (step_act p m t x line) (quiet_told (step p m t) line.number _) (running_is_made m t run) run) in
      subst (λ (s : MachineState). AreTold s.tasks ((events ++ on_strand (strand_now m t) (step_act p m t x line)) ++ turn_events m (step p m t) t)) (sym (run_push p (start p limit) ts t))
      (told_more m.tasks (step p m t).tasks (events ++ on_strand (strand_now m t) (step_act p m t x line)) (turn_events m (step p m t) t) first (turns_add p m t K x is (ap is_running (sym is) ∙ run)))

  begins : Told [] []
  begins = record { within = λ e i. absurd i; last = tt; over = λ e i. absurd i; told = none; kept = λ e i. absurd i }
    where
      none : (t : ℕ) → t < 1 → HasEnded (start p limit).tasks t → (e : Event) × In [] e × (e.strand.task ≡ t) × (e.act ≡ acts.Finish)
      none zero lt h = absurd (let z : true ≡ false = h.0 in cc)
      none (suc t) lt h = absurd (omega (arith, lt))

-- ITS TASKS

module _ (m : MachineState) (P : PairsOf m) (some : 0 < length m.tasks) (events : List Event) (T : TellEdges m.edges events) (A : AreTold m.tasks events) where
  does : (t i : ℕ) (turn : _) → slice_get (turns_told events t) i ≡ Some turn → slice_get (turns_of m.edges t) i ≡ Some turn
  does t i turn h = ap (λ turns. slice_get turns i) (sym (T.turns t)) ∙ h

  is_there : (t : ℕ) → IsTrue (is_task events t) → t < length m.tasks
  is_there t h = elim (or_cases (t == 0) (list_any (tells t) events) h) [
    | inl e ↦ let z : t ≡ 0 = eqb-true t 0 e in omega (arith, z, some)
    | inr any ↦ let f = in_from_any (tells t) events any in is_there_by_cases f.0 f.1 (or_cases (f.0.strand.task == t) (spawns t f.0.act) f.2)
  ]
    where
      is_there_by_cases : (e : Event) → In events e → ((e.strand.task == t) ≡ true) ⊎ (spawns t e.act ≡ true) → t < length m.tasks
      is_there_by_cases e i (inl own) = subst (λ k. k < length m.tasks) (eqb-true e.strand.task t own) (A.within e i)
      is_there_by_cases e i (inr child) = let d = event_turn events e (Spawn t) i (act_spawn e.act t child) in (P.below e.strand.task d.0 t (does e.strand.task d.0 (Spawn t) d.1)).1

  is_named : (t : ℕ) → t < length m.tasks → IsTrue (is_task events t)
  is_named zero lt = refl
  is_named (suc t) lt =
      let c = P.made (suc t) (omega arith) lt in
      let e = turn_event events c.0 c.1 (Spawn (suc t)) (ap (λ turns. slice_get turns c.1) (T.turns c.0) ∙ c.3) in
      or_right (suc t == 0) (list_any (tells (suc t)) events) (any_from_in (tells (suc t)) events e.0 e.1 (or_right (e.0.strand.task == suc t) (spawns (suc t) e.0.act) (spawn_act e.0.act (suc t) e.3)))

  pub run_told : IsRunTold m events
  run_told = record {
    tasks = record {
      tasks = λ t. (is_there t, is_named t);
      order = T.order;
      last = A.last;
      joined = λ t i c h. let b = P.back t i c (does t i (Join c) h) in (P.below t b.0 c b.2).1;
    };
    ends = A.told;
    ended = A.over;
    unreleased = A.kept;
  }

pub logs_tell_tasks : LogsTellTasks
logs_tell_tasks p s journal legal =
    let limit = field_limit s.version in
    let A = told_along p limit (Told p limit) (work p limit) (idle p limit) (takes p limit) journal (begins p limit) (legal_ready p s journal legal) in
    let K = (run_is_fork_join_state p (start p limit) (tasks_of journal) (start_is_fork_join_state p limit)).tree in
    let odd = K.odd in
    run_told (machine_of p s journal) (run_pairs p limit (tasks_of journal)) (omega (arith, odd)) (events_told (lines_of p s journal)) A.0 A.1

pub logs_are_cut_runs : (p : ProgramText) (s : SettingsValue) (journal : List EntryValue) → is_legal p s journal ≡ true → IsCutRun (turns_told (events_told (lines_of p s journal))) (length (machine_of p s journal).tasks)
logs_are_cut_runs p s journal legal =
    let m = machine_of p s journal in
    subst (λ tasks. IsCutRun tasks (length m.tasks)) (sym (fun_ext (logs_tell_edges p s journal legal).turns)) (runs_are_fork_join p (field_limit s.version) (tasks_of journal)).0
