-- The names of lower crates and of the specifications that these proofs use. Declares nothing.
pub use Rattle.hh_model.proofs.Carried.{at_in}
pub use Rattle.hh_model.proofs.Changes.{StopsAt}
pub use Rattle.hh_model.proofs.Closed.{asked_at}
pub use Rattle.hh_model.proofs.Counts.{runs_are_counted, run_push}
pub use Rattle.hh_model.proofs.ForkJoinStates.{IsForkJoinState, run_is_fork_join_state, start_is_fork_join_state, no_objects, seen}
pub use Rattle.hh_model.proofs.Runs.{joins_of}
pub use Rattle.hh_model.proofs.Steps.{in_registers, names_run, runs_is, step_cases, Halts}
pub use Rattle.hh_model.proofs.Taken.{can_runs, step_taken}
pub use Rattle.hh_model.specs.Effect.{effect, object_at, Effect, Goes, Stops, StepContext, made, int_in, ref_in, place_in, same_name, or_trap, read_effect, onward, with_ref, counts_in}
pub use Rattle.hh_model.specs.Names.{next_name, task_names, words_asked}
pub use Rattle.hh_model.specs.Precedence.{precedes}
pub use Rattle.hh_model.specs.Step.{asked, asked_line, can_step, fetched, follow, is_running, owner_of, run, setting, start, step, strand_of, goes_on, ended_by, ended_task, result_of}
pub use Rattle.hh_model.specs.Store.{IsStored, NamesAreStoredIn}
pub use Rattle.hh_model.specs.declared.data.End.{End}
pub use Rattle.hh_model.specs.declared.data.End.TheVariants.{Done, Trapped, Entangled}
pub use Rattle.hh_model.specs.declared.data.Frame.{Frame}
pub use Rattle.hh_model.specs.declared.data.MachineState.{MachineState}
pub use Rattle.hh_model.specs.declared.data.Name.{Name}
pub use Rattle.hh_model.specs.declared.data.Object.{Object}
pub use Rattle.hh_model.specs.declared.data.Strand.{Strand}
pub use Rattle.hh_model.specs.declared.data.Task.{Task}
pub use Rattle.hh_model.specs.declared.data.TaskStatus.{TaskStatus}
pub use Rattle.hh_model.specs.declared.data.TaskStatus.TheVariants.{Running, Waiting, Ended, Joined}
pub use Rattle.log_births.specs.Blocks.{born, used, yielded, if_some}
pub use Rattle.path_laws.proofs.FreeReads.{run_disentangled}
pub use Rattle.path_laws.proofs.Objects.{object_later}
pub use Rattle.path_laws.proofs.Stored.{made_here, names_are_stored}
pub use Rattle.plain_vec.proofs.Members.{In, contains_from_in, got_within, in_append_cases, in_append_left, in_append_right, in_flat}
pub use Rattle.plain_vec.proofs.Options.{none_some}
pub use Rattle.plain_vec.proofs.Places.{got_some}
pub use Rattle.race_report.proofs.LabelSteps.{Keeps, step_keeps, begun_running}
pub use Rattle.race_report.specs.LabelLaw.{TaskRuns}
pub use Rattle.run_ledger.proofs.Grown.{Grown, grown}
pub use Rattle.run_ledger.proofs.Machine.{kind_machine, machine_is_run, stepped_machine}
pub use Rattle.run_ledger.specs.Entries.{after, after_kind, refusal, refused_if}
pub use Rattle.run_ledger.specs.Journals.{after_all, end_of, is_legal, is_legal_from, machine_of, opening}
pub use Rattle.run_ledger.specs.Steps.{allocated_in, settled, stepped_to, task_step, task_steps}
pub use Rattle.run_ledger.specs.declared.data.Ledger.{Ledger}
pub use Rattle.run_ledger.specs.declared.data.Refused.{Refused}
pub use Rattle.run_ledger.specs.declared.data.Refused.TheVariants.{Over}
pub use Rattle.run_ledger.specs.declared.data.RunEnd.{RunEnd}
pub use Rattle.run_ledger.specs.declared.data.RunEnd.TheVariants.{Machine}
pub use Rattle.run_log_laws.specs.Graph.{in_log}
pub use Rattle.run_log_laws.specs.below.fork_graph.{GraphStrand}
pub use Rattle.run_log_laws.specs.below.hh_lang.{ProgramText, Line, Instr, Set, Mov, Movr, Nil, Calc, Same, Jmp, Jz, Newm, Pack, Getr, Geti, Putr, Puti, Cntr, Cnti, Freeze, Cas, Call, Par, Ret, Out}
pub use Rattle.run_read_laws.specs.Reads.{AreBirthsTold, AreBlocksTold, AreInTime, AreReadsTold, BirthIsTold, IsBirthIn, IsInTime, IsSightOf, IsStoppedAtRead, IsUnstopped, LogsTellReads}
pub use Rattle.run_turn_laws.proofs.Along.{act_told, on_strand, strand_now, turn_events, step_act, told_along}
pub use Rattle.run_turn_laws.proofs.Legal.{legal_ready}
pub use Rattle.run_turn_laws.proofs.Told.{spot}
pub use Rattle.run_turn_laws.specs.Events.{spot_after}
pub use Rattle.run_turn_laws.specs.below.log_form.{Event, event}
pub use Rattle.run_turn_laws.specs.below.log_lines.{Act}
pub use Rattle.run_turn_laws.specs.below.run_deltas.{act_of, deed, Deed, if_there, number_place, reference_in}
pub use Rattle.run_turn_laws.specs.below.run_log.{block_of, moved_lines}
pub use Rattle.run_turn_laws.specs.below.run_trace.{field_limit, EntryValue, SettingsValue, Kind, Took, Ran, Chunk, Begin, PutOff, Mark, More, Sweep, Fuel}
pub use Rattle.std.proofs.Common.{◌≡◌, ◌<◌, ◌+◌, ◌*◌, ℕ, Bool, true, false, cond, Option, Some, None, IfSome, List, [], ◌∷◌, ◌++◌, length, slice_get, ◌⊎◌, inl, inr, refl, ap, sym, subst, ◌∙◌, arith, append_assoc, ne_eqb, zero, suc, pos, replicate, take, slice_set}
pub use Rattle.std.proofs.lemmas.Bool.{both_ways, and_parts, false≢true}
pub use Rattle.std.proofs.lemmas.Option.{same_Some}
pub use Rattle.std.specs.List.{flat_map}
pub use Rattle.std.specs.Option.{option_flatten}
pub use Rattle.std.specs.Prelude.{is_some, is_none, ◌==◌, option_to_list}
