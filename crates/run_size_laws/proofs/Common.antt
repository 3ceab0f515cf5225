-- The names of lower crates and of the specifications that these proofs use. Declares nothing.
pub use Rattle.hh_model.proofs.Counts.{run_push, runs_are_counted}
pub use Rattle.hh_model.proofs.Sizes.{limit_stays, sizes_are_bounded}
pub use Rattle.hh_model.specs.Effect.{object_at}
pub use Rattle.hh_model.specs.Step.{can_step, fetched, is_running, run, start, step}
pub use Rattle.hh_model.specs.declared.data.MachineState.{MachineState}
pub use Rattle.hh_model.specs.declared.data.Name.{Name}
pub use Rattle.hh_model.specs.declared.data.Task.{Task}
pub use Rattle.hh_model.specs.declared.data.TaskStatus.{TaskStatus}
pub use Rattle.hh_model.specs.declared.data.TaskStatus.TheVariants.{Running, Waiting, Ended, Joined}
pub use Rattle.log_size_laws.proofs.Work.{IsKnownAct, knows, told_work}
pub use Rattle.log_size_laws.specs.Small.{AreSmallActs, IsSmallAct, IsSmallLog, work_told}
pub use Rattle.log_size_laws.specs.below.log_findings.{order_of}
pub use Rattle.log_size_laws.specs.below.log_weights.{units_of, weights_of}
pub use Rattle.plain_vec.proofs.Members.{in_append_cases}
pub use Rattle.plain_vec.proofs.Places.{each_in, read_in}
pub use Rattle.plain_vec.specs.Members.{In}
pub use Rattle.run_graph_laws.proofs.RunTold.{logs_tell_tasks, logs_are_cut_runs}
pub use Rattle.run_graph_laws.specs.RunTold.{IsRunTold}
pub use Rattle.run_limit_laws.proofs.Lines.{logs_tell_runs, small_limit, logs_are_within_limits}
pub use Rattle.run_limit_laws.proofs.Steps.{count_fits}
pub use Rattle.run_limit_laws.specs.Limits.{run_texts, FitInLog, IsInPlace, IsSmallRun}
pub use Rattle.run_limit_laws.specs.below.fork_graph.{GraphStrand}
pub use Rattle.run_limit_laws.specs.below.hh_lang.{Line, ProgramText}
pub use Rattle.run_limit_laws.specs.below.log_text_laws.{events_of}
pub use Rattle.run_limit_laws.specs.below.run_log.{field_count, act_line, deed_lines, entry_lines, lines_from, lines_of_deed, step_lines, steps_lines, strand_lines}
pub use Rattle.run_size_laws.specs.RunSizes.{RunLogsAreSmall, IsSizeOfRun}
pub use Rattle.run_trace.specs.Entry.{EntryValue, IsKind, IsEntry}
pub use Rattle.run_turn_laws.proofs.Along.{act_told, on_strand, step_act, strand_now, told_along, turn_events}
pub use Rattle.run_turn_laws.proofs.Legal.{legal_ready}
pub use Rattle.run_turn_laws.proofs.Told.{spot}
pub use Rattle.run_turn_laws.specs.Events.{events_told, spot_after}
pub use Rattle.run_turn_laws.specs.Turns.{turns_told}
pub use Rattle.run_turn_laws.specs.below.log_form.{Event, event, Spot, spot_behind, file_begin}
pub use Rattle.run_turn_laws.specs.below.log_lines.{Act, LogLine}
pub use Rattle.run_turn_laws.specs.below.run_deltas.{Deed, deed, act_of, deed_of, machine_after, stepped}
pub use Rattle.run_turn_laws.specs.below.run_ledger.{is_legal, tasks_in, tasks_of, machine_of}
pub use Rattle.run_turn_laws.specs.below.run_log.{act_of_deed, lines_of, moved_lines, turn_lines}
pub use Rattle.run_turn_laws.specs.below.run_trace.{SettingsValue, field_limit, Kind, Took, Ran, Chunk, Begin, End, PutOff, Mark, More, Sweep, Fuel}
pub use Rattle.std.proofs.Common.{◌≡◌, ◌≤◌, ◌^◌, ℕ, true, Option, Some, None, IfSome, List, [], ◌∷◌, ◌++◌, length, refl, subst, arith, inl, inr, slice_get, ◌+◌, ◌*◌, zero, suc, sum_by, ◌<◌, All, sym, ap, ◌∙◌, sum}
pub use Rattle.std.proofs.lemmas.Bool.{le-leb}
pub use Rattle.std.proofs.lemmas.List.{length-append, length-replicate}
pub use Rattle.std.proofs.lemmas.List.Sums.{sum_by-append, sum_by-cons}
pub use Rattle.std.specs.List.{AllByRecursion}
pub use Rattle.told_graph_laws.proofs.Graphs.{logs_tell_graphs, own_task}
pub use Rattle.told_graph_laws.proofs.Kept.{event_stands, kept_above, kept_strand}
pub use Rattle.told_graph_laws.specs.ToldGraph.{IsGraphTold}
pub use Rattle.told_graph_laws.specs.below.fork_graph.{Extent, HasStrand, IsAncestor, TaskTurns}
pub use Rattle.told_graph_laws.specs.below.log_tasks.{IsLog, LogTasks}
