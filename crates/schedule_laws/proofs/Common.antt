-- The names of lower crates and of the specifications that these proofs use. Declares nothing.
pub use Rattle.hh_lang.proofs.Examples.{fun}
pub use Rattle.hh_lang.specs.Form.{ProgramText}
pub use Rattle.hh_lang.specs.declared.instr.Instr.{Instr}
pub use Rattle.hh_lang.specs.declared.instr.Instr.TheVariants.{Getr, Geti, Putr, Puti, Cas, Freeze, Set, Calc, Newm, Par, Ret, Out}
pub use Rattle.hh_lang.specs.declared.instr.Operator.TheVariants.{Add}
pub use Rattle.hh_lang.specs.declared.program.Line.{Line}
pub use Rattle.hh_model.proofs.Carried.{at_in, flat_at}
pub use Rattle.hh_model.proofs.Climbs.{owner_here}
pub use Rattle.hh_model.proofs.Closed.{grown_cases, three_cases}
pub use Rattle.hh_model.proofs.Counts.{step_limit, run_on, run_push, counted_step}
pub use Rattle.hh_model.proofs.EndLaws.{ended_stays}
pub use Rattle.hh_model.proofs.ForkJoinStates.{run_is_fork_join_state, step_is_fork_join_state, start_is_fork_join_state}
pub use Rattle.hh_model.proofs.Lists.{set_got}
pub use Rattle.hh_model.proofs.Root.{runs_tell, runs_have_one_root}
pub use Rattle.hh_model.proofs.Runs.{running_tells}
pub use Rattle.hh_model.proofs.Steps.{in_registers, names_run, runs_is, step_cases}
pub use Rattle.hh_model.proofs.Taken.{step_idle, can_task, can_runs, step_none, step_taken, can_made}
pub use Rattle.hh_model.proofs.Tree.{not_above}
pub use Rattle.hh_model.proofs.Walks.{same_from_test}
pub use Rattle.hh_model.specs.Counts.{Counted}
pub use Rattle.hh_model.specs.Effect.{Effect, Goes, Prints, Calls, Forks, Returns, Traps, Stops, StepContext, effect, int_in, object_at, onward, or_trap, place_in, put_object, read_effect, ref_in, same_name, unless_frozen, with_int, with_object, row_of}
pub use Rattle.hh_model.specs.Names.{names_from, registers, task_names}
pub use Rattle.hh_model.specs.Precedence.{precedes, Precedes, same_strand}
pub use Rattle.hh_model.specs.Step.{setting, strand_of, ended_task, is_left, is_running, is_waiting, joined, joined_task, result_at, parents, result_in, resumed, runs, sibling, waits, is_on_path, owner_of, step, can_step, run, run_from, start, fetched, follow, child, parent_of, result_of, edge, strand, child_ended_by, depth_limit, ended_by, frame_limit, goes_on, join_of, last_of, last_return, or_same, returned_to, back_in, entry_frame, front_of, stepped, is_joined, owner_in, path_in}
pub use Rattle.hh_model.specs.Store.{NamesAreStoredIn}
pub use Rattle.hh_model.specs.Tree.{IsForkJoinState, waiting, joins_in, joins_of}
pub use Rattle.hh_model.specs.declared.data.Edge.{Edge}
pub use Rattle.hh_model.specs.declared.data.End.{End}
pub use Rattle.hh_model.specs.declared.data.End.TheVariants.{Done, Trapped, Entangled}
pub use Rattle.hh_model.specs.declared.data.Frame.{Frame}
pub use Rattle.hh_model.specs.declared.data.MachineState.{MachineState}
pub use Rattle.hh_model.specs.declared.data.Name.{Name}
pub use Rattle.hh_model.specs.declared.data.Object.{Object}
pub use Rattle.hh_model.specs.declared.data.Strand.{Strand}
pub use Rattle.hh_model.specs.declared.data.Task.{Task}
pub use Rattle.hh_model.specs.declared.data.TaskStatus.{TaskStatus}
pub use Rattle.hh_model.specs.declared.data.TaskStatus.TheVariants.{Running, Waiting, Ended, Joined}
pub use Rattle.hh_model.specs.declared.data.Trap.{Trap}
pub use Rattle.hh_model.specs.declared.data.Trap.TheVariants.{Frozen, Nil, Range, Depth}
pub use Rattle.path_laws.proofs.Disentangled.{disentangled_step, start_disentangled}
pub use Rattle.path_laws.proofs.FreeReads.{run_disentangled}
pub use Rattle.path_laws.proofs.Leaves.{leaves_owner, can_going, wait_there}
pub use Rattle.path_laws.proofs.Objects.{made_stays, put_here, put_other, rows_stay}
pub use Rattle.path_laws.proofs.Stored.{names_are_stored}
pub use Rattle.path_laws.specs.Disentangled.{Disentangled}
pub use Rattle.path_laws.specs.Leaves.{LeavesOwner}
pub use Rattle.plain_vec.proofs.Members.{got_cases, got_front, got_other, got_within, In, in_append_left, in_append_cases, in_append_right, got_back, got_past, contains_from_in, in_from_contains, got_same, got_in}
pub use Rattle.plain_vec.proofs.Places.{got_none, in_got, in_map}
pub use Rattle.race_report.proofs.LabelSteps.{begun_running, run_keeps, Begun}
pub use Rattle.race_report.proofs.Written.{field_found, index_of}
pub use Rattle.race_report.specs.Accesses.{access, access_by, next_access, field_at, line_access, object_references, swap_access, task_access, unless_trap, value_of, accesses_from, with_some, accesses, ref_field}
pub use Rattle.race_report.specs.LabelLaw.{TaskRuns}
pub use Rattle.race_report.specs.StopLaw.{HasNoRace}
pub use Rattle.race_report.specs.declared.data.Field.{Field}
pub use Rattle.race_report.specs.declared.data.FieldAccess.{FieldAccess}
pub use Rattle.renaming_laws.proofs.Changed.{Reach, Reaches, Writes, fields_of, Edit, Edits, Freezes, FreezesBy, SetNumber, SetRef, edited, Change, ChangesBy, EditsBy, Grows, Same, changed, put_in, edited_row}
pub use Rattle.renaming_laws.proofs.Effects.{flat_to, ref_carried, same_carried, same_task}
pub use Rattle.renaming_laws.proofs.Fixed.{row_fixed, task_fixed, KeepsTask}
pub use Rattle.renaming_laws.proofs.Follows.{can_to, object_there}
pub use Rattle.renaming_laws.proofs.Lists.{from_map}
pub use Rattle.renaming_laws.proofs.Owners.{walks}
pub use Rattle.renaming_laws.proofs.Runs.{fork_join_here, step_grows, counted_here, run_grows, run_to}
pub use Rattle.renaming_laws.proofs.Stepped.{Acts, acts, step_to}
pub use Rattle.renaming_laws.proofs.Swaps.{at_low, swapped, at_first, at_second, stands}
pub use Rattle.renaming_laws.proofs.Unnamed.{EffectAs, IsSame, SeesSame, effect_as, itself}
pub use Rattle.renaming_laws.specs.Alike.{AreRenamed}
pub use Rattle.renaming_laws.specs.Laws.{swap}
pub use Rattle.renaming_laws.specs.Renaming.{end_to, IsRenaming, frame_to, object_to, ref_to, strand_to, task_to, edge_to, status_to}
pub use Rattle.run_ledger.specs.Journals.{tasks_of}
pub use Rattle.run_trace.specs.Settings.{field_limit}
pub use Rattle.schedule_laws.specs.SameResult.{access_to, field_to, SameResult}
pub use Rattle.schedule_laws.specs.Clashes.{Clash}
pub use Rattle.schedule_laws.specs.Laws.{EveryRunGoesOn, SomeRunSpeaksUp, JournalsAgree, EveryEndAgrees, OneRunSpeaksForAll, SpeaksUp}
pub use Rattle.schedule_laws.specs.Ordered.{IsOrdered, OrderedIsRaceFree, SwapsContend, AreOrdered}
pub use Rattle.schedule_laws.specs.Prints.{turns_from, Print, line_print, print_by, print_of, prints_from, task_print, PrintsAreOrdered, printed_by}
pub use Rattle.schedule_laws.specs.Steps.{AreBeside, StepsCommute, ChangesOnly, FieldsStay, FreezesNext, Commutes, EndAlike, LeavesStep, ClashesStay, StepsLeaveSteps, RunningTasksAreApart}
pub use Rattle.std.proofs.Common.{◌≡◌, ℕ, pos, Bool, true, false, cond, Option, Some, None, length, slice_get, slice_set, unwrap_or, refl, ap, sym, ◌∙◌, ℤ, ◌+◌, ◌-◌, ◌%◌, ◌<◌, List, [], ◌∷◌, ◌⊎◌, inl, inr, subst, arith, suc, eq-eqb, ne_eqb, length-set, ◌≤◌, ◌++◌, negsuc, map, ap₂, length-append, append-nil, ◌&&◌, ◌||◌, not, zero, nat_lt, ◌==◌, append_assoc}
pub use Rattle.std.proofs.lemmas.Bool.{false≢true, both_ways, cases_Bool, cond-false, cond-true, eqb-false, eqb-true, cases_eq, and_parts}
pub use Rattle.std.proofs.lemmas.List.{set_comm, map-append, set-set, set-append_left}
pub use Rattle.std.proofs.lemmas.Option.{same_Some, slice_get-map}
pub use Rattle.std.specs.Option.{option_flatten, option_map}
