-- No task of a run's log has a fault.
use Rattle.std.proofs.Common.{◌≡◌, ◌<◌, ◌≤◌, ℕ, true, Option, Some, None, List, [], ◌∷◌, length, inl, inr, refl, ap, sym, subst, ◌∙◌, arith}
use Rattle.plain_vec.proofs.Members.{In}
use Rattle.fork_graph.specs.Faults.{IsFault, IsSoundRun}
use Rattle.fork_graph.specs.Nested.{IsNested}
use Rattle.fork_graph.specs.Graph.{TaskTurns, tasks_in, strand, last_of}
use Rattle.fork_graph.specs.declared.fault.Extent.{Extent}
use Rattle.fork_graph.specs.declared.fault.Extent.TheVariants.{Whole, Cut}
use Rattle.fork_graph.specs.declared.fault.StrandCause.{StrandCause}
use Rattle.fork_graph.specs.declared.fault.StrandCause.TheVariants as graph
use Rattle.fork_graph.specs.declared.graph.GraphStrand.{GraphStrand}
use Rattle.fork_graph.specs.declared.graph.GraphTurn.{GraphTurn}
use Rattle.fork_graph.proofs.Sound.{sound_runs_have_no_fault}
use Rattle.log_form.specs.Events.{Event, acts_on, event}
use Rattle.log_tasks.specs.Ends.{end_of}
use Rattle.log_tasks.specs.Faults.{HasCause, HasNoneBelow}
use Rattle.log_tasks.specs.Numbers.{AreNumbers, log_strand}
use Rattle.log_tasks.specs.Rows.{AreRows}
use Rattle.log_tasks.specs.declared.ending.StrandEnd.TheVariants.{Finishes}
use Rattle.log_tasks.specs.declared.fault.TaskCause.{TaskCause}
use Rattle.log_tasks.specs.declared.fault.TaskCause.TheVariants.{JoinsNoOpenChild, HasNoEnd, LeavesUnjoined, IsUnreached, GoesOnAfterEnd}
use Rattle.log_tasks.proofs.Spawning.{in_events}
use Rattle.run_log_laws.specs.Graph.{turns_of}
use Rattle.run_log_laws.specs.Whole.{IsCutRun}
use Rattle.run_log_laws.proofs.Whole.{all_ended, runs_are_fork_join}
use Rattle.run_log_laws.specs.below.hh_lang.{ProgramText}
use Rattle.run_turn_laws.specs.Turns.{turns_told}
use Rattle.run_turn_laws.specs.Events.{events_told}
use Rattle.run_turn_laws.specs.below.log_lines.{Act}
use Rattle.run_turn_laws.specs.below.run_ledger.{Done, is_legal, machine_of, tasks_of}
use Rattle.run_turn_laws.specs.below.run_log.{lines_of}
use Rattle.run_turn_laws.specs.below.run_trace.{EntryValue, SettingsValue, field_limit}
use Rattle.run_turn_laws.proofs.Legal.{logs_tell_edges}
use Rattle.std.proofs.Math.Path.{fun_ext}
use Rattle.told_graph_laws.specs.ToldGraph.{AreToldInOrder}
use Rattle.told_graph_laws.proofs.Ends.{EndAsTold, ends_as_told}
use Rattle.told_graph_laws.proofs.Graphs.{number, rows_told, size}
use Rattle.told_graph_laws.proofs.Kept.{event_stands}
use Rattle.run_graph_laws.specs.RunTold.{IsRunTold, EndIsTold}
use Rattle.run_graph_laws.proofs.RunTold.{logs_tell_tasks}
use Rattle.run_fault_laws.specs.Sound.{RunTasksAreSound}

module _ (n : ℕ) (events : List Event) (extent : Extent) (numbers : List ℕ) (rows : List (List GraphTurn)) (told : AreToldInOrder n events) (named : AreNumbers events numbers) (are : AreRows events numbers rows)
    (sound : IsSoundRun rows extent) (ends : extent ≡ Whole → (t : ℕ) → t < n → EndIsTold events t) where
  turns_are : tasks_in rows ≡ turns_told events
  turns_are = rows_told n events numbers rows told named are

  count : length rows ≡ n
  count = size n events numbers rows told named are

  E : EndAsTold events
  E = ends_as_told events told.order told.last

  -- its last strand as the log has it
  last_told : (u : GraphStrand) → u.task < n → u ≡ last_of (tasks_in rows) u.task → log_strand numbers u ≡ strand u.task (length (turns_told events u.task))
  last_told u lt is =
      ap (λ t. strand t u.index) (number n events numbers rows told named are u.task lt)
      ∙ (ap (λ (v : GraphStrand). strand u.task v.index) is ∙ ap (λ (tasks : TaskTurns). strand u.task (length (tasks u.task))) turns_are)

  in_graph : (u : GraphStrand) (cause : StrandCause) → u.task < length rows → IsFault (tasks_in rows) (length rows) extent u cause → ⊥
  in_graph u cause lt f = sound_runs_have_no_fault rows extent sound u cause lt f

  finished : (t : ℕ) → EndIsTold events t → end_of events (strand t (length (turns_told events t))) ≡ Some Finishes
  finished t (e, i, at, f) = subst (λ k. end_of events (strand k (length (turns_told events k))) ≡ Some Finishes) at (E.ended e i f)

  not_none : (o : _) → o ≡ Some Finishes → o ≡ None → ⊥
  not_none o e f = absurd (let z : Some Finishes ≡ None = sym e ∙ f in cc)

  first_in : (done : List Act) → (done ≡ [] → ⊥) → (a : Act) × In done a
  first_in [] some = absurd (some refl)
  first_in (a ∷ more) some = (a, inl refl)

  none : (u : GraphStrand) (cause : TaskCause) → u.task < length rows → HasCause events extent numbers rows u cause → ⊥
  none u JoinsNoOpenChild lt h = in_graph u graph.JoinsNoOpenChild lt h
  none u LeavesUnjoined lt h = in_graph u graph.LeavesUnjoined lt h
  none u IsUnreached lt h = in_graph u graph.IsUnreached lt h
  none u HasNoEnd lt h =
      let few : u.task < n = (let c = count in omega (arith, lt, c)) in
      not_none (end_of events (log_strand numbers u)) (ap (end_of events) (last_told u few h.0.1) ∙ finished u.task (ends h.0.0 u.task few)) h.1
  none u GoesOnAfterEnd lt h =
      let few : u.task < n = (let c = count in omega (arith, lt, c)) in
      let i = h.1.0 in
      let at : log_strand numbers (strand u.task i) ≡ strand u.task i = ap (λ t. strand t i) (number n events numbers rows told named are u.task few) in
      let a = first_in (acts_on events (strand u.task i)) (λ e. h.1.2 (ap (acts_on events) at ∙ e)) in
      let stands : i ≤ length (turns_told events u.task) = event_stands events (event (strand u.task i) a.0) told.order (in_events events (strand u.task i) a.0 a.1) in
      let past = h.1.1 in
      let last : u.index ≡ length (turns_told events u.task) = ap (λ (v : GraphStrand). v.index) h.0.1 ∙ ap (λ (tasks : TaskTurns). length (tasks u.task)) turns_are in
      omega (arith, stands, past, last)

-- the turns are those of a run
is_run : (p : ProgramText) (s : SettingsValue) (journal : List EntryValue) (legal : is_legal p s journal ≡ true) (rows : List (List GraphTurn)) → tasks_in rows ≡ turns_told (events_told (lines_of p s journal)) → length rows ≡ length (machine_of p s journal).tasks
    → (extent : Extent) → (extent ≡ Whole → (machine_of p s journal).end ≡ Some Done) → IsSoundRun rows extent
is_run p s journal legal rows turns size extent done = is_run_by_extent extent done
  where
    edges : tasks_in rows ≡ turns_of (machine_of p s journal).edges
    edges = turns ∙ fun_ext (logs_tell_edges p s journal legal).turns

    cut : IsCutRun (tasks_in rows) (length rows)
    cut =
        subst (λ tasks. IsCutRun tasks (length rows)) (sym edges)
        (subst (IsCutRun (turns_of (machine_of p s journal).edges)) (sym size) (runs_are_fork_join p (field_limit s.version) (tasks_of journal)).0)

    is_run_by_extent : (x : Extent) → (x ≡ Whole → (machine_of p s journal).end ≡ Some Done) → IsSoundRun rows x
    is_run_by_extent Whole d = record { nested = subst IsNested (sym edges) ((runs_are_fork_join p (field_limit s.version) (tasks_of journal)).1 (d refl)); below = cut.below; reached = cut.reached }
    is_run_by_extent Cut d = record { fork_join = cut.fork_join; below = cut.below }

pub run_tasks_are_sound : RunTasksAreSound
run_tasks_are_sound p s journal legal extent done numbers rows named are =
    let m = machine_of p s journal in
    let events = events_told (lines_of p s journal) in
    let T = logs_tell_tasks p s journal legal in
    let sound = is_run p s journal legal rows (rows_told (length m.tasks) events numbers rows T.tasks named are) (size (length m.tasks) events numbers rows T.tasks named are) extent done in
    none (length m.tasks) events extent numbers rows T.tasks named are sound (λ whole t lt. T.ends t lt (all_ended p (field_limit s.version) (tasks_of journal) (done whole) t))
