-- The names of lower crates and of the specifications that these proofs use. Declares nothing.
pub use Rattle.hh_model.proofs.Carried.{at_in}
pub use Rattle.hh_model.proofs.Counts.{runs_are_counted, run_push}
pub use Rattle.hh_model.proofs.ForkJoinStates.{IsForkJoinState, run_is_fork_join_state, start_is_fork_join_state}
pub use Rattle.hh_model.proofs.Runs.{joins_of, joins_in, waiting, running_tells}
pub use Rattle.hh_model.proofs.Taken.{can_runs}
pub use Rattle.hh_model.specs.Effect.{Effect, Goes, Prints, Calls, Forks, Returns, Traps, Stops, StepContext, effect, object_at, int_in, ref_in, place_in, same_name, read_effect, or_trap, onward, with_ref, counts_in, row_of}
pub use Rattle.hh_model.specs.Names.{next_name}
pub use Rattle.hh_model.specs.Precedence.{precedes, IsEdgeWalk, Precedes}
pub use Rattle.hh_model.specs.Step.{setting, strand_of, owner_of, start, is_running, is_waiting, is_joined, joined, can_step, fetched, step, run, run_from}
pub use Rattle.hh_model.specs.Store.{IsStored, NamesAreStoredIn, StaysAs}
pub use Rattle.hh_model.specs.declared.data.Edge.{Edge}
pub use Rattle.hh_model.specs.declared.data.Frame.{Frame}
pub use Rattle.hh_model.specs.declared.data.MachineState.{MachineState}
pub use Rattle.hh_model.specs.declared.data.Name.{Name}
pub use Rattle.hh_model.specs.declared.data.Object.{Object}
pub use Rattle.hh_model.specs.declared.data.Strand.{Strand}
pub use Rattle.hh_model.specs.declared.data.Task.{Task}
pub use Rattle.hh_model.specs.declared.data.TaskStatus.{TaskStatus}
pub use Rattle.hh_model.specs.declared.data.TaskStatus.TheVariants.{Running, Waiting, Ended, Joined}
pub use Rattle.hh_model.specs.declared.data.Trap.{Trap}
pub use Rattle.log_places.specs.Places.{Covers}
pub use Rattle.log_places.specs.declared.region.Region.{Region}
pub use Rattle.log_touches.specs.Accesses.{region_of}
pub use Rattle.log_touches.specs.declared.access.ActAccess.{ActAccess}
pub use Rattle.path_laws.proofs.Objects.{objects_stay}
pub use Rattle.path_laws.proofs.Stored.{names_are_stored}
pub use Rattle.race_cells.specs.CellAccess.{writes, is_atomic, clash}
pub use Rattle.race_cells.specs.declared.access.CellAccessKind.TheVariants.{PlainRead, PlainWrite}
pub use Rattle.race_report.proofs.LabelSteps.{Begun, run_keeps, begun_running}
pub use Rattle.race_report.proofs.Written.{index_of}
pub use Rattle.race_report.specs.Accesses.{access_by, unless_trap, object_references, value_of, with_some, accesses, accesses_from, next_access, task_access, line_access}
pub use Rattle.race_report.specs.LabelLaw.{TaskRuns}
pub use Rattle.race_report.specs.Races.{IsRace, RaceAt}
pub use Rattle.race_report.specs.declared.data.Field.{Field}
pub use Rattle.race_report.specs.declared.data.FieldAccess.{FieldAccess}
pub use Rattle.run_log_laws.proofs.Rows.{open_turns}
pub use Rattle.run_log_laws.proofs.Runs.{walks_agree, run_rows}
pub use Rattle.run_log_laws.proofs.below.plain_vec.{contains_from_in, In, got_in, in_got, in_map, map_in, in_append_cases, in_from_contains, got_more}
pub use Rattle.run_log_laws.specs.Graph.{in_log, turns_of, WalksAgree}
pub use Rattle.run_log_laws.specs.below.fork_graph.{GraphStrand, StrandPrecedes}
pub use Rattle.run_log_laws.specs.below.hh_lang.{Instr, Set, Mov, Movr, Nil, Calc, Same, Jmp, Jz, Newm, Pack, Getr, Geti, Putr, Puti, Cntr, Cnti, Freeze, Cas, Call, Par, Ret, Out, ProgramText, Line}
pub use Rattle.run_race_laws.specs.Accesses.{ToldAccess, told_access, accesses_told, as_told, access_kind_of, field_region, index_among, accesses_by, LogsTellAccesses}
pub use Rattle.run_race_laws.specs.Races.{HasField, ToldRaceAt, count_of, LogsTellFields, LogsTellRaces}
pub use Rattle.run_turn_laws.proofs.Along.{act_told, on_strand, strand_now, turn_events, step_act, told_along}
pub use Rattle.run_turn_laws.proofs.Legal.{logs_tell_edges, legal_ready}
pub use Rattle.run_turn_laws.proofs.Told.{spot}
pub use Rattle.run_turn_laws.specs.Events.{events_told, spot_after}
pub use Rattle.run_turn_laws.specs.Turns.{turns_told, TellEdges}
pub use Rattle.run_turn_laws.specs.below.log_form.{Event, event}
pub use Rattle.run_turn_laws.specs.below.log_lines.{Act}
pub use Rattle.run_turn_laws.specs.below.run_deltas.{act_by, act_of, deed, if_there, number_in, number_place, reference_in, step_act_of, Deed}
pub use Rattle.run_turn_laws.specs.below.run_ledger.{is_legal, machine_of, tasks_of}
pub use Rattle.run_turn_laws.specs.below.run_log.{act_of_deed, block_of, lines_of, location, moved_lines}
pub use Rattle.run_turn_laws.specs.below.run_trace.{EntryValue, SettingsValue, field_limit}
pub use Rattle.std.proofs.Common.{◌≡◌, ◌<◌, ◌≤◌, ◌+◌, ◌*◌, ℕ, ℤ, pos, negsuc, nat_lt, arith, zero, suc, Bool, true, false, cond, Option, Some, None, IfSome, List, [], ◌∷◌, ◌++◌, length, map, slice_get, refl, ap, sym, subst, ◌∙◌, not, ◌⊎◌, inl, inr, append-nil, append_assoc}
pub use Rattle.std.proofs.Math.Path.{fun_ext}
pub use Rattle.std.proofs.lemmas.Bool.{ltb-true, and_parts, cases_lt, both_ways}
pub use Rattle.std.proofs.lemmas.Grind.{flat_map-append}
pub use Rattle.std.proofs.lemmas.List.{map-append}
pub use Rattle.std.proofs.lemmas.Option.{same_Some, slice_get_within}
pub use Rattle.std.specs.Option.{option_flatten}
pub use Rattle.std.specs.Prelude.{Contains, ◌==◌, ◌&&◌, ◌||◌, ◌↔◌}
