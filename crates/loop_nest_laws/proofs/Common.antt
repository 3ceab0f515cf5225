-- The names of lower crates and of the specifications that these proofs use. Declares nothing.
pub use Rattle.hh_lang.proofs.Examples.{fun}
pub use Rattle.hh_lang.specs.Form.{ProgramText, code_of}
pub use Rattle.hh_lang.specs.Loop.{Loop, IsLoop, whole_code, left_code, right_code, instrs_of}
pub use Rattle.hh_lang.specs.declared.instr.Instr.{Instr}
pub use Rattle.hh_lang.specs.declared.instr.Instr.TheVariants.{Call, Ret, Par, Set, Calc, Nil, Jz, Newm, Getr, Geti, Putr, Puti, Cntr, Cnti, Freeze, Cas}
pub use Rattle.hh_lang.specs.declared.instr.Operator.TheVariants.{Add, Lt, Eq, Sub}
pub use Rattle.hh_lang.specs.declared.program.Line.{Line}
pub use Rattle.hh_model.proofs.ForkJoinStates.{IsForkJoinState, start_is_fork_join_state, run_is_fork_join_state}
pub use Rattle.hh_model.proofs.Lists.{last_push, front_push}
pub use Rattle.hh_model.proofs.Runs.{grown_at, grown_left, grown_right, three_left, three_right, three_top, three_other, grown_other, running_tells, ended_tells}
pub use Rattle.hh_model.proofs.Sizes.{wide}
pub use Rattle.hh_model.proofs.Taken.{step_taken, can_runs, step_idle}
pub use Rattle.hh_model.specs.Effect.{effect, onward, int_in, ref_in, with_int, with_ref, Goes, StepContext, flag, int_eq, Effect, Prints, Calls, Forks, Returns, Traps, Stops, or_trap, with_object, read_effect, calculated, counts_in, place_in, same_name, object_at}
pub use Rattle.hh_model.specs.Precedence.{precedes}
pub use Rattle.hh_model.specs.Step.{is_running, result_in, setting, follow, fetched, last_of, front_of, back_in, entry_frame, ended_by, with_task, frame_limit, is_joined, is_over, is_left, sibling, parents, parent_of, result_of, child, resumed, joined, depth_limit, strand_of, strand, edge, runs, waits, last_return, returned_to, child_ended_by, result_at, ended_task, joined_task, join_of, or_same, root, owner_of, forked, stepped, step, can_step, is_waiting, goes_on, start}
pub use Rattle.hh_model.specs.declared.data.End.{End}
pub use Rattle.hh_model.specs.declared.data.End.TheVariants.{Trapped, Done, Entangled}
pub use Rattle.hh_model.specs.declared.data.Frame.{Frame}
pub use Rattle.hh_model.specs.declared.data.MachineState.{MachineState}
pub use Rattle.hh_model.specs.declared.data.Name.{Name}
pub use Rattle.hh_model.specs.declared.data.Object.{Object}
pub use Rattle.hh_model.specs.declared.data.Task.{Task}
pub use Rattle.hh_model.specs.declared.data.TaskStatus.{TaskStatus}
pub use Rattle.hh_model.specs.declared.data.TaskStatus.TheVariants.{Waiting, Running}
pub use Rattle.hh_model.specs.declared.data.Trap.{Trap}
pub use Rattle.hh_model.specs.declared.data.Trap.TheVariants.{Depth, Range, Frozen, Div, Size}
pub use Rattle.loop_nest_laws.specs.Frames.{Activation, StandsAt, Takes, ReturnsBy, called_frame, left_frame, right_frame}
pub use Rattle.loop_nest_laws.specs.LoopLaw.{IsInRange, SomeLoopReturns, IsLoopStep, HasReturned, CallsEachNumber, wrapping_sum, loop_frame, GoesOn, LoopsCallEachNumber, numbers_between, count_of, BodyFinds, IsCallFor, IsUsed}
pub use Rattle.loop_nest_laws.specs.Nest.{Starts, Begins, ComesBy, InNest, CallsBody, ForksIn}
pub use Rattle.model_laws.proofs.Winner.{run_next, run_past}
pub use Rattle.model_laws.specs.Winner.{IsTurn, after}
pub use Rattle.path_laws.proofs.Leaves.{goes_tells}
pub use Rattle.plain_vec.proofs.Members.{got_same, got_within, contains_from_in, got_other, In, in_append_left, in_append_right, got_front, got_back}
pub use Rattle.plain_vec.proofs.Places.{got_some, got_set, map_got}
pub use Rattle.std.proofs.Common.{◌≡◌, ℕ, ℤ, zero, suc, ◌+◌, ◌-◌, ◌≤◌, Bool, true, false, cond, Option, Some, None, List, [], ◌∷◌, ◌++◌, length, slice_get, nat_lt, ◌⊎◌, inl, inr, refl, ap, sym, subst, ◌∙◌, arith, length-append, append_assoc, ◌<◌, slice_set, pos, replicate, length-set, negsuc, ◌/◌, ◌%◌, ◌^◌, take, ◌==◌}
pub use Rattle.std.proofs.Math.Nat.{mod-add-mod, add-mod-mod}
pub use Rattle.std.proofs.lemmas.Bool.{cases_eq, cases_lt, cond-true, false≢true, both_ways, cond-false, eq-eqb, ne_eqb, eqb-false}
pub use Rattle.std.proofs.lemmas.Int.{ints, wrapping_add_is, wrapping_sub_is, int_wrap_fits, to_z_pos, of_z-to_z}
pub use Rattle.std.proofs.lemmas.Option.{same_Some}
pub use Rattle.std.specs.Int.{int_wrapping_add, w64, int_wrapping_sub, int_wrapping_div, int_wrap, cast_signed, cast_unsigned}
pub use Rattle.std.specs.Option.{option_flatten}
pub use Rattle.std.specs.Prelude.{int_lt, ◌+ℤ◌, ◌-ℤ◌, FitsSigned, unwrap_or}
