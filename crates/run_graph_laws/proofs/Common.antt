-- The names of lower crates and of the specifications that these proofs use. Declares nothing.
pub use Rattle.hh_model.proofs.Counts.{run_push}
pub use Rattle.hh_model.proofs.ForkJoinStates.{IsForkJoinState, run_is_fork_join_state, start_is_fork_join_state}
pub use Rattle.hh_model.proofs.Runs.{grown_at, grown_left, grown_right, grown_other, grown_length, three_top, three_left, three_right, three_other, three_length, below, wp, parr, running_tells}
pub use Rattle.hh_model.proofs.Steps.{step_cases, runs_is}
pub use Rattle.hh_model.proofs.Taken.{can_runs}
pub use Rattle.hh_model.specs.Effect.{onward}
pub use Rattle.hh_model.specs.Step.{is_running, is_waiting, step, run, start, can_step, fetched, is_left, runs, waits, is_over, parent_of, child, joined_task, resumed, join_of, ended_task, ended_by, result_of, strand_of, edge, strand}
pub use Rattle.hh_model.specs.Tree.{joins_in}
pub use Rattle.hh_model.specs.declared.data.End.{End}
pub use Rattle.hh_model.specs.declared.data.MachineState.{MachineState}
pub use Rattle.hh_model.specs.declared.data.Name.{Name}
pub use Rattle.hh_model.specs.declared.data.Task.{Task}
pub use Rattle.hh_model.specs.declared.data.TaskStatus.TheVariants.{Running, Waiting, Ended, Joined}
pub use Rattle.log_form.specs.Faults.{spawns}
pub use Rattle.log_tasks.specs.Numbers.{is_task, tells}
pub use Rattle.plain_vec.proofs.Members.{In, in_append_cases, in_append_left, in_append_right, any_from_in, in_from_any, got_within, got_same, got_other, same_view}
pub use Rattle.run_graph_laws.specs.RunTold.{HasEnded, EndIsTold, IsRunTold, LogsTellTasks}
pub use Rattle.run_log_laws.proofs.Pairs.{Pairs}
pub use Rattle.run_log_laws.proofs.Runs.{PairsOf, run_pairs}
pub use Rattle.run_log_laws.proofs.Whole.{runs_are_fork_join}
pub use Rattle.run_log_laws.specs.Graph.{turns_of}
pub use Rattle.run_log_laws.specs.Whole.{IsCutRun}
pub use Rattle.run_log_laws.specs.below.fork_graph.{TaskTurns, Spawn, Join, GraphStrand}
pub use Rattle.run_log_laws.specs.below.hh_lang.{ProgramText, Line}
pub use Rattle.run_turn_laws.proofs.Along.{act_told, on_strand, strand_now, turn_events, step_act, told_along}
pub use Rattle.run_turn_laws.proofs.Legal.{legal_ready, logs_tell_edges}
pub use Rattle.run_turn_laws.proofs.Told.{spot}
pub use Rattle.run_turn_laws.specs.Events.{events_told, spot_after}
pub use Rattle.run_turn_laws.specs.Turns.{turns_told, TellEdges}
pub use Rattle.run_turn_laws.specs.below.log_form.{Event, event}
pub use Rattle.run_turn_laws.specs.below.log_lines.{Act}
pub use Rattle.run_turn_laws.specs.below.run_deltas.{act_of, Deed}
pub use Rattle.run_turn_laws.specs.below.run_ledger.{is_legal, machine_of, tasks_of}
pub use Rattle.run_turn_laws.specs.below.run_log.{act_of_deed, lines_of, left_of, moved_lines, turn_lines}
pub use Rattle.run_turn_laws.specs.below.run_trace.{EntryValue, SettingsValue, field_limit}
pub use Rattle.std.proofs.Common.{◌≡◌, ◌<◌, ◌≤◌, ℕ, true, false, List, [], ◌∷◌, ◌++◌, length, slice_get, ◌⊎◌, inl, inr, refl, ap, sym, subst, ◌∙◌, arith, append-nil, append_assoc, ◌+◌, ◌%◌, ◌==◌, zero, suc, Bool, Option, Some, None, IfSome, eq-eqb, ◌*◌, ◌-◌, ℤ, slice_set, length-set}
pub use Rattle.std.proofs.Math.Path.{fun_ext}
pub use Rattle.std.proofs.lemmas.Bool.{both_ways, cases_lt, or_cases, or_left, or_right, eqb-true, cases_eq, cond-true, cond-false}
pub use Rattle.std.specs.List.{list_any}
pub use Rattle.std.specs.Prelude.{IsTrue, ◌||◌}
pub use Rattle.told_graph_laws.proofs.Ends.{turn_event, event_turn, spawn_act, act_spawn}
pub use Rattle.told_graph_laws.specs.ToldGraph.{IsUnended, EndsAreLast, AreToldInOrder}
