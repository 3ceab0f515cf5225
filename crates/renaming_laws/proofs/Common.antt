-- The names of lower crates and of the specifications that these proofs use. Declares nothing.
pub use Rattle.hh_lang.specs.Form.{ProgramText}
pub use Rattle.hh_lang.specs.declared.instr.Instr.{Instr}
pub use Rattle.hh_lang.specs.declared.instr.Instr.TheVariants.{Getr, Geti, Putr, Puti, Freeze, Cas, Set, Mov, Movr, Nil, Calc, Same, Jmp, Jz, Newm, Pack, Cntr, Cnti, Call, Par, Ret, Out}
pub use Rattle.hh_lang.specs.declared.program.Line.{Line}
pub use Rattle.hh_model.proofs.Carried.{at_in}
pub use Rattle.hh_model.proofs.Climbs.{owner_here}
pub use Rattle.hh_model.proofs.Counts.{counted_step, run_counted, start_counted}
pub use Rattle.hh_model.proofs.ForkJoinStates.{start_is_fork_join_state, step_is_fork_join_state, run_is_fork_join_state}
pub use Rattle.hh_model.proofs.Steps.{runs_is, step_cases}
pub use Rattle.hh_model.specs.Counts.{Counted}
pub use Rattle.hh_model.specs.Effect.{StepContext, int_in, object_at, place_in, ref_in, row_of, same_name, Effect, Goes, Prints, Calls, Forks, Returns, Traps, Stops, effect, made, put_object, counts_in, or_trap, with_object, read_effect, calculated, flag, onward, with_ref, with_int, int_eq, unless_frozen}
pub use Rattle.hh_model.specs.Precedence.{IsEdgeWalk, Precedes, precedes}
pub use Rattle.hh_model.specs.Step.{can_step, edge, ended_by, goes_on, is_running, join_of, joined_task, result_at, result_in, resumed, runs, strand, with_task, last_of, front_of, child, parent_of, parents, ended_task, is_left, result_of, run_from, start, step, strand_of, waits, is_joined, is_over, joined, owner_by, owner_of, through, back_in, called, child_ended_by, depth_limit, entry_frame, fetched, follow, forked, frame_limit, last_return, or_same, returned, returned_to, setting, sibling, stepped}
pub use Rattle.hh_model.specs.Tree.{IsForkJoinState}
pub use Rattle.hh_model.specs.declared.data.Edge.{Edge}
pub use Rattle.hh_model.specs.declared.data.End.{End}
pub use Rattle.hh_model.specs.declared.data.End.TheVariants.{Done, Trapped, Entangled}
pub use Rattle.hh_model.specs.declared.data.Frame.{Frame}
pub use Rattle.hh_model.specs.declared.data.MachineState.{MachineState}
pub use Rattle.hh_model.specs.declared.data.Name.{Name}
pub use Rattle.hh_model.specs.declared.data.Object.{Object}
pub use Rattle.hh_model.specs.declared.data.Strand.{Strand}
pub use Rattle.hh_model.specs.declared.data.Task.{Task}
pub use Rattle.hh_model.specs.declared.data.TaskStatus.{TaskStatus}
pub use Rattle.hh_model.specs.declared.data.TaskStatus.TheVariants.{Running, Waiting, Ended, Joined}
pub use Rattle.hh_model.specs.declared.data.Trap.{Trap}
pub use Rattle.hh_model.specs.declared.data.Trap.TheVariants.{Range, Frozen, Div, Size, Depth}
pub use Rattle.plain_vec.proofs.Members.{In, in_from_contains, contains_from_in, in_append_cases, in_append_left, in_append_right, got_front, got_back, got_other, got_same, got_within}
pub use Rattle.plain_vec.proofs.Options.{same_truth}
pub use Rattle.plain_vec.proofs.Places.{in_map}
pub use Rattle.renaming_laws.specs.Alike.{AreRenamed}
pub use Rattle.renaming_laws.specs.Laws.{RunsAreCarried, swap}
pub use Rattle.renaming_laws.specs.PlaceLaw.{PlacesAreNames}
pub use Rattle.renaming_laws.specs.Places.{IsForkPlace, ForkPlace}
pub use Rattle.renaming_laws.specs.Renaming.{strand_to, edge_to, name_to, object_to, ref_to, frame_to, status_to, task_to, IsRenaming, end_to}
pub use Rattle.std.proofs.Common.{ℕ, List, [], ◌∷◌, Contains, map, ap, ◌∙◌, ◌≡◌, ℤ, ◌==◌, Bool, true, false, Option, Some, None, ◌++◌, length, slice_get, slice_set, zero, suc, pos, ◌&&◌, cond, take, replicate, unwrap_or, inl, inr, refl, ap₂, sym, subst, eq-eqb, ne_eqb, ◌+◌, ◌≤◌, arith, length-append, length-set, ◌-◌, ◌<◌, ◌⊎◌, ◌%◌, nat_lt, eqb-true}
pub use Rattle.std.proofs.Math.Seq.{map-set}
pub use Rattle.std.proofs.lemmas.Bool.{cases_eq, false≢true, cases_lt, cases_Bool, cond-true, cond-false, lt-ltb, le-ltb}
pub use Rattle.std.proofs.lemmas.List.{take-map, length-map, map-append}
pub use Rattle.std.proofs.lemmas.Option.{slice_get-map, same_Some}
pub use Rattle.std.specs.Option.{option_flatten, option_map}
