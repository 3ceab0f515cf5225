-- The names of lower crates and of the specifications that these proofs use. Declares nothing.
pub use Rattle.hh_model.proofs.Carried.{at_in}
pub use Rattle.hh_model.proofs.Closed.{asked_at}
pub use Rattle.hh_model.proofs.Counts.{runs_are_counted, run_push}
pub use Rattle.hh_model.proofs.ForkJoinStates.{run_is_fork_join_state, start_is_fork_join_state, IsForkJoinState}
pub use Rattle.hh_model.proofs.Sizes.{limit_stays, sizes_are_bounded}
pub use Rattle.hh_model.proofs.Steps.{names_run, in_registers, runs_is}
pub use Rattle.hh_model.proofs.Taken.{can_runs, can_task}
pub use Rattle.hh_model.specs.Counts.{Counted, SizesIn}
pub use Rattle.hh_model.specs.Effect.{object_at, row_of, int_in, ref_in, place_in, counts_in, same_name}
pub use Rattle.hh_model.specs.Names.{next_name, words_asked, words_for, task_names}
pub use Rattle.hh_model.specs.Step.{step, run, start, fetched, can_step, is_running, owner_of, asked_line, is_left, parents, parent_of}
pub use Rattle.hh_model.specs.Store.{IsStored, NamesAreStoredIn}
pub use Rattle.hh_model.specs.Tree.{joins_in, joins_of, waiting}
pub use Rattle.hh_model.specs.declared.data.Frame.{Frame}
pub use Rattle.hh_model.specs.declared.data.MachineState.{MachineState}
pub use Rattle.hh_model.specs.declared.data.Name.{Name}
pub use Rattle.hh_model.specs.declared.data.Object.{Object}
pub use Rattle.hh_model.specs.declared.data.Task.{Task}
pub use Rattle.hh_model.specs.declared.data.TaskStatus.{TaskStatus}
pub use Rattle.hh_model.specs.declared.data.TaskStatus.TheVariants.{Running, Waiting, Ended, Joined}
pub use Rattle.log_text_laws.proofs.Logs.{logs_cut, logs_told}
pub use Rattle.log_text_laws.specs.Names.{HasName, AllFunctionsNamed}
pub use Rattle.path_laws.proofs.Objects.{objects_stay}
pub use Rattle.path_laws.proofs.Stored.{next_stored, names_are_stored}
pub use Rattle.run_limit_laws.specs.Births.{born_by, blocks_born, BlocksAreBornOnce}
pub use Rattle.run_limit_laws.specs.Limits.{FitInLog, IsSmallRun, LogsAreWithinLimits, LogsTellRuns}
pub use Rattle.run_log.specs.Acts.{access, block_of, field_count, location, reference, swap_kind, target_of, act_of_deed}
pub use Rattle.run_log.specs.Lines.{act_line, entry_lines, lines_from, lines_of_deed, moved_lines, step_lines, steps_lines, strand_lines, join_lines, left_of, turn_lines}
pub use Rattle.run_log.specs.Log.{lines_of}
pub use Rattle.run_log_laws.proofs.Rows.{open_turns}
pub use Rattle.run_log_laws.proofs.Runs.{run_rows}
pub use Rattle.run_log_laws.proofs.below.plain_vec.{In, in_append_cases, contains_from_in, all_at}
pub use Rattle.run_log_laws.specs.below.fork_graph.{GraphStrand, strand}
pub use Rattle.run_log_laws.specs.below.hh_lang.{ProgramText, Line, Instr, Set, Mov, Movr, Nil, Calc, Same, Jmp, Jz, Newm, Pack, Getr, Geti, Putr, Puti, Cntr, Cnti, Freeze, Cas, Call, Par, Ret, Out, Fun, code_of, line_at}
pub use Rattle.run_race_laws.proofs.Deeds.{place_within}
pub use Rattle.run_race_laws.proofs.Races.{same_names}
pub use Rattle.run_race_laws.specs.below.log_places.{AreDifferent}
pub use Rattle.run_trace.specs.declared.settings.Version.{Version}
pub use Rattle.run_trace.specs.declared.settings.Version.TheVariants.{One, Two}
pub use Rattle.run_turn_laws.proofs.Along.{act_told, on_strand, strand_now, turn_events, step_act, told_along}
pub use Rattle.run_turn_laws.proofs.Legal.{legal_ready, logs_tell_edges}
pub use Rattle.run_turn_laws.proofs.Told.{spot}
pub use Rattle.run_turn_laws.specs.Events.{spot_after, events_told}
pub use Rattle.run_turn_laws.specs.Turns.{turns_told}
pub use Rattle.run_turn_laws.specs.below.log_form.{Event, event, Spot, file_begin, spot_behind}
pub use Rattle.run_turn_laws.specs.below.log_lines.{IsLogNumber, IsLine, IsAct, LogLine, IsLogPlace, IsLogReference, AccessKind, Act}
pub use Rattle.run_turn_laws.specs.below.run_deltas.{Deed, act_of, deed, if_there, number_in, number_place, reference_in, deed_of, act_by, step_act_of, machine_after, stepped}
pub use Rattle.run_turn_laws.specs.below.run_ledger.{is_legal, tasks_in, tasks_of}
pub use Rattle.run_turn_laws.specs.below.run_trace.{field_limit, EntryValue, SettingsValue, Kind, Took, Ran, Chunk, Begin, End, PutOff, Mark, More, Sweep, Fuel}
pub use Rattle.std.proofs.Common.{◌≡◌, ◌<◌, ◌≤◌, ◌+◌, ℕ, Bool, true, cond, Option, Some, None, List, [], ◌∷◌, ◌++◌, length, slice_get, ◌⊎◌, inl, inr, is_some, refl, ap, sym, subst, ◌∙◌, arith, append-nil, length-append, zero, suc, false, IfSome, replicate, ◌*◌, ◌-◌, max}
pub use Rattle.std.proofs.lemmas.Grind.{flat_map-append}
pub use Rattle.std.proofs.lemmas.List.{length-replicate}
pub use Rattle.std.proofs.lemmas.List.Elements.{All-from_recursion}
pub use Rattle.std.proofs.lemmas.Option.{slice_get_within, slice_get_past}
pub use Rattle.std.specs.List.{All, AllByRecursion}
pub use Rattle.std.specs.Prelude.{◌==◌}
