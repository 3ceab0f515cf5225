-- The names of lower crates and of the specifications that these proofs use. Declares nothing.
pub use Rattle.hh_model.specs.below.hh_lang.{ProgramText, Instr, Set, Mov, Movr, Calc, Same, Jmp, Jz, Newm, Pack, Getr, Geti, Putr, Puti, Cntr, Cnti, Freeze, Cas, Call, Par, Ret, Out, Line}
pub use Rattle.hh_model.proofs.Carried.{in_from_named, next_name, named_from_in, at_in}
pub use Rattle.hh_model.proofs.Changes.{SetsRef, SetsInt, Freezes}
pub use Rattle.hh_model.proofs.Climbs.{owner_here}
pub use Rattle.hh_model.proofs.Closed.{waits_is, refs_grown, grown_cases, three_cases, joined_names, resumed_names, Closed, closed_step, asked_at}
pub use Rattle.hh_model.proofs.Counts.{Counted, counted_step, start_counted}
pub use Rattle.hh_model.proofs.ForkJoinStates.{IsForkJoinState, seen, start_is_fork_join_state, run_is_fork_join_state, step_is_fork_join_state, empty_rows}
pub use Rattle.hh_model.proofs.Paths.{AreLow, path_child, path_itself, path_same, owner_same, owner_le, owner_joins, on_one_path, path_parent, path_along, path_le, path_through}
pub use Rattle.hh_model.proofs.Root.{runs_tell}
pub use Rattle.hh_model.proofs.Runs.{running_tells, grown_length, grown_view, grown_view_front, grown_left, grown_right, fork_tree, three_length, three_view, three_left, three_right, parl, parr, below, drest, joiner_live, waiting, joins_in, grown_other, three_other, wp}
pub use Rattle.hh_model.proofs.Steps.{Drawn, Put, runs_is, names_run, register_cases, step_cases, Halts, in_registers, Alters}
pub use Rattle.hh_model.proofs.Stores.{put_cases, made_cases, in_row}
pub use Rattle.hh_model.proofs.Taken.{step_taken, step_idle, can_task}
pub use Rattle.hh_model.proofs.Tree.{not_above, owner_not_joined, live_up}
pub use Rattle.hh_model.specs.Effect.{row_of, onward, ref_in, Goes, Stops, object_at, or_trap, read_effect, with_ref, put_object, Effect, StepContext, effect, made, counts_in, int_in}
pub use Rattle.hh_model.specs.Names.{refs_of, refs_at, task_names, words_asked, words_for}
pub use Rattle.hh_model.specs.Precedence.{Precedes, precedes}
pub use Rattle.hh_model.specs.Step.{waits, is_over, is_running, is_waiting, is_joined, parent_of, parents, joined, owner_in, path_in, is_left, joined_task, resumed, child, step, root, run, start, ended_task, result_of, ended_by, is_on_path, owner_of, run_from, setting, strand_of, can_step, goes_on, runs, through, owner_by, path_by, fetched, follow, asked, asked_line}
pub use Rattle.hh_model.specs.Store.{IsStored, IsWriteTo, WritesNext, StaysAs, ObjectsStay, OutputsGrow, NamesAreStored}
pub use Rattle.hh_model.specs.declared.data.End.{End}
pub use Rattle.hh_model.specs.declared.data.End.TheVariants.{Done, Trapped, Entangled}
pub use Rattle.hh_model.specs.declared.data.Frame.{Frame}
pub use Rattle.hh_model.specs.declared.data.MachineState.{MachineState}
pub use Rattle.hh_model.specs.declared.data.Name.{Name}
pub use Rattle.hh_model.specs.declared.data.Object.{Object}
pub use Rattle.hh_model.specs.declared.data.Task.{Task}
pub use Rattle.hh_model.specs.declared.data.TaskStatus.TheVariants.{Waiting}
pub use Rattle.hh_model.specs.declared.data.Trap.TheVariants.{Nil, Size}
pub use Rattle.path_laws.specs.Disentangled.{Disentangled}
pub use Rattle.path_laws.specs.Leaves.{LeavesOwner, WaitsAlone}
pub use Rattle.path_laws.specs.Paths.{IsWalkUp, IsWalkOfJoined, PathsAreWalks, OwnersAreWalks}
pub use Rattle.path_laws.specs.ReadLaws.{ReadsFreely, OwnReadsGo, IsReadStop, StopsNameOwners, FrozenReadsGo}
pub use Rattle.hh_model.proofs.below.plain_vec.{In, got_cases, got_within, same_view, in_from_contains, contains_from_in, got_same, got_other, got_past, got_front, got_back, none_some, none_set, got_some}
pub use Rattle.std.proofs.Common.{◌≡◌, ℕ, ℤ, zero, suc, ◌+◌, ◌<◌, ◌≤◌, ◌==◌, ◌||◌, Bool, true, false, Option, Some, List, [], ◌∷◌, ◌++◌, length, slice_get, slice_set, ◌⊎◌, inl, inr, refl, ap, sym, subst, ◌∙◌, arith, length-set, ne_eqb, cond, None, is_some, set, append_assoc, append-nil, eqb-true}
pub use Rattle.std.proofs.Math.Path.{fun_ext}
pub use Rattle.std.proofs.lemmas.Bool.{or_right, cases_eq, both_ways, cases_lt, false≢true, or_cases, false_from_ne_true}
pub use Rattle.std.proofs.lemmas.Option.{same_Some}
pub use Rattle.std.specs.Option.{option_flatten}
