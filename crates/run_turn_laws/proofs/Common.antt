-- The names of lower crates and of the specifications that these proofs use. Declares nothing.
pub use Rattle.hh_model.proofs.Counts.{run_on, run_push}
pub use Rattle.hh_model.proofs.ForkJoinStates.{IsForkJoinState, run_is_fork_join_state, start_is_fork_join_state}
pub use Rattle.hh_model.proofs.Runs.{waiting, joins_of, joins_in, running_tells, grown_at, three_left, three_right, three_top, below, wp, parr}
pub use Rattle.hh_model.proofs.Steps.{step_cases, runs_is, Halts}
pub use Rattle.hh_model.proofs.Taken.{can_task, step_idle, step_none}
pub use Rattle.hh_model.specs.Effect.{onward}
pub use Rattle.hh_model.specs.Names.{task_names}
pub use Rattle.hh_model.specs.Step.{is_running, can_step, fetched, step, run, run_from, start, waits, is_waiting, edge, runs, is_over, parent_of, parents, strand_of, is_left, child, joined_task, resumed, join_of, ended_task, ended_by, result_of}
pub use Rattle.hh_model.specs.declared.data.Edge.{Edge}
pub use Rattle.hh_model.specs.declared.data.MachineState.{MachineState}
pub use Rattle.hh_model.specs.declared.data.Name.{Name}
pub use Rattle.hh_model.specs.declared.data.Object.{Object}
pub use Rattle.hh_model.specs.declared.data.Strand.{Strand}
pub use Rattle.hh_model.specs.declared.data.Task.{Task}
pub use Rattle.hh_model.specs.declared.data.TaskStatus.{TaskStatus}
pub use Rattle.hh_model.specs.declared.data.TaskStatus.TheVariants.{Running, Waiting, Ended, Joined}
pub use Rattle.journal_laws.proofs.Accepted.{accepted_is_allowed}
pub use Rattle.journal_laws.specs.Accepted.{Allows, IsAccepted}
pub use Rattle.log_form.specs.Events.{Event, event, Spot, spot_behind, spot_behind_act, strand_behind, file_begin}
pub use Rattle.log_lines.specs.declared.line.Act.{Act}
pub use Rattle.log_lines.specs.declared.line.LogLine.{LogLine}
pub use Rattle.run_log.proofs.below.run_deltas.{machine_moves}
pub use Rattle.run_log.specs.below.run_deltas.{act_of, act_by, step_act_of, deed, deed_of, machine_after, stepped, Deed, StepDeed, Value}
pub use Rattle.run_log.specs.below.run_ledger.{tasks_in, tasks_of, Ledger, refusal, after, opening, is_legal_from, is_legal}
pub use Rattle.run_log.specs.below.run_trace.{EntryValue, SettingsValue, field_limit, Kind, Took, Ran, Chunk, Begin, End, PutOff, Mark, More, Sweep, Fuel}
pub use Rattle.run_log.specs.Acts.{act_of_deed}
pub use Rattle.run_log.specs.Lines.{deed_lines, moved_lines, lines_of_deed, step_lines, steps_lines, strand_lines, entry_lines, lines_from, left_of, join_lines, turn_lines, act_line}
pub use Rattle.run_log.specs.Log.{lines_of}
pub use Rattle.run_log_laws.proofs.Rows.{Rows, open_turns}
pub use Rattle.run_log_laws.proofs.Runs.{RowsOf, run_rows}
pub use Rattle.run_log_laws.proofs.below.plain_vec.{none_is, In, got_same, same_view}
pub use Rattle.run_log_laws.specs.Graph.{turns_of, turn_at}
pub use Rattle.run_log_laws.specs.below.fork_graph.{GraphStrand, strand, GraphTurn, Spawn, Join}
pub use Rattle.run_log_laws.specs.below.hh_lang.{ProgramText, Line, Par}
pub use Rattle.run_turn_laws.specs.Events.{spot_after, events_told}
pub use Rattle.run_turn_laws.specs.Turns.{turn_by, turns_told, FollowTurns, TellEdges, LogsTellEdges, turns_by}
pub use Rattle.std.proofs.Common.{◌≡◌, ◌<◌, ◌≤◌, ◌+◌, ◌*◌, ◌-◌, ◌==◌, ℕ, zero, suc, Bool, true, false, List, [], ◌∷◌, ◌++◌, length, slice_get, replicate, Option, Some, None, IfSome, arith, refl, ap, sym, subst, ◌∙◌, cond, append-nil, append_assoc, ℤ, slice_set, ◌⊎◌, inl, inr, length-append, ne_eqb, eq-eqb}
pub use Rattle.std.proofs.lemmas.Bool.{cases_Bool, cond-false, and_parts, cases_eq, cond-true}
pub use Rattle.std.proofs.lemmas.Grind.{flat_map-append}
pub use Rattle.std.specs.List.{flat_map}
pub use Rattle.std.specs.Prelude.{◌&&◌, is_none}
