-- The names of lower crates and of the specifications that these proofs use. Declares nothing.
pub use Rattle.hh_lang.specs.Form.{ProgramText, IsProgram, IsFunction, IsReturn, EndsWithReturn, NamesExist, code_of, line_at}
pub use Rattle.hh_lang.specs.declared.instr.Instr.{Instr}
pub use Rattle.hh_lang.specs.declared.instr.Instr.TheVariants.{Set, Mov, Movr, Nil, Calc, Same, Jmp, Jz, Newm, Pack, Getr, Geti, Putr, Puti, Cntr, Cnti, Freeze, Cas, Call, Par, Ret, Out}
pub use Rattle.hh_lang.specs.declared.program.Fun.{Fun}
pub use Rattle.hh_lang.specs.declared.program.Line.{Line}
pub use Rattle.hh_model.specs.Calculations.{Leads, Calculates, advanced_by, calculates, calculates_by, calculates_line, calculates_next, is_calculation}
pub use Rattle.hh_model.specs.Counts.{RunsAreCounted, StepsCount, HasAllRegisters, HasFewFields, SizesAreBounded, LimitStays}
pub use Rattle.hh_model.specs.Effect.{Effect, effect, Goes, calculated, int_in, onward, or_trap, with_int, Prints, Calls, Forks, Returns, Traps, Stops, StepContext, object_at, put_object, row_of, with_object, made, read_effect, ref_in, with_ref, same_name, counts_in, place_in, int_eq, flag}
pub use Rattle.hh_model.specs.Ends.{EndsDone, IsEnded, unended}
pub use Rattle.hh_model.specs.Machine.{IsOfRun, MachineValue, advanced, IsSoundState}
pub use Rattle.hh_model.specs.Names.{names_of_references, refs_of, refs_at, words_asked, words_for, registers, names_from, task_names}
pub use Rattle.hh_model.specs.NextLaw.{HasNext, AlwaysNext, PacksAreFew}
pub use Rattle.hh_model.specs.PathLaw.{PathIsPrecedence, PathIsPrecedenceIn}
pub use Rattle.hh_model.specs.Precedence.{precedes, Precedes, same_strand, IsEdgeWalk, holds_strand, with_target, found_from}
pub use Rattle.hh_model.specs.Step.{follow, setting, can_step, fetched, goes_on, is_running, step, through, owner_by, path_by, waits, is_waiting, is_joined, parent_of, joined_task, resumed, child, asked, asked_by, asked_line, root, ended_task, result_of, start, run, run_from, sibling, is_over, parents, joined, owner_of, is_on_path, path_in, owner_in, strand, strand_of, is_left, forked, child_ended_by, last_return, returned_to, join_of, result_at, or_same, last_of, front_of, back_in, ended_by, depth_limit, frame_limit, stepped, entry_frame, edge, runs, result_in}
pub use Rattle.hh_model.specs.Store.{IsWriteTo, TasksStay, MakesChildren}
pub use Rattle.hh_model.specs.Tree.{IsForkJoinState, HasOneRoot, RunsHaveOneRoot, waiting, joins_in}
pub use Rattle.hh_model.specs.declared.data.Edge.{Edge}
pub use Rattle.hh_model.specs.declared.data.End.{End}
pub use Rattle.hh_model.specs.declared.data.End.TheVariants.{Done, Trapped, Entangled}
pub use Rattle.hh_model.specs.declared.data.Frame.{Frame}
pub use Rattle.hh_model.specs.declared.data.MachineState.{MachineState}
pub use Rattle.hh_model.specs.declared.data.Name.{Name}
pub use Rattle.hh_model.specs.declared.data.Object.{Object}
pub use Rattle.hh_model.specs.declared.data.Strand.{Strand}
pub use Rattle.hh_model.specs.declared.data.Task.{Task}
pub use Rattle.hh_model.specs.declared.data.TaskStatus.{TaskStatus}
pub use Rattle.hh_model.specs.declared.data.TaskStatus.TheVariants.{Running, Waiting, Ended, Joined}
pub use Rattle.hh_model.specs.declared.data.Trap.{Trap}
pub use Rattle.hh_model.specs.declared.data.Trap.TheVariants.{Div, Range, Frozen, Size, Depth}
pub use Rattle.hh_lang.proofs.below.plain_vec.{got_same, In, got_in, got_cases, got_past, in_append_right, in_append_left, got_within, same_view, in_append_cases, in_from_contains, got_other, got_front, got_back, view_step, contains_from_in, none_some, some_none, in_take, all_at, got_some, got_more}
pub use Rattle.std.proofs.Common.{◌≡◌, ℕ, Option, Some, None, IfSome, ap, sym, ◌∙◌, ℤ, zero, suc, ◌+◌, ◌<◌, ◌&&◌, Bool, true, false, IsSomeAnd, is_some, List, slice_get, slice_set, refl, ap₂, ◌==◌, eqb-true, arith, set-set, pos, cond, [], ◌∷◌, ◌++◌, length, set, ◌⊎◌, inl, inr, subst, replicate, negsuc, ◌≤◌, nat_le, take, nat_lt, ◌*◌, ◌^◌, length-set, length-append, append_assoc, ◌-◌, ◌%◌, eq-eqb, ◌||◌, ne_eqb, max, get_or, Contains, eqb, rules}
pub use Rattle.std.proofs.Math.Bool.{or-false}
pub use Rattle.std.proofs.Math.Path.{fun_ext}
pub use Rattle.std.proofs.lemmas.Bool.{eqb-false, false≢true, leb-true, ltb-true, cases_eq, both_ways, cond-true, cond-false, cases_lt, or_left, or_right, false_from_ne_true, or_cases, and_left, and_parts, and_from}
pub use Rattle.std.proofs.lemmas.List.{set-get_or, length-replicate, length-take, set-append_left}
pub use Rattle.std.proofs.lemmas.List.Elements.{All-get_or}
pub use Rattle.std.proofs.lemmas.Option.{get_or_from_slice_get, same_Some, slice_get_within}
pub use Rattle.std.proofs.lemmas.Result.{on_ok_weaker}
pub use Rattle.std.specs.Option.{option_flatten}
