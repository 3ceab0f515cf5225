-- Re-exports from `hh_model` for the crates above.
pub use Rattle.hh_model.specs.Closed.{Closed}
pub use Rattle.hh_model.specs.Counts.{Counted}
pub use Rattle.hh_model.specs.Effect.{Calls, Effect, Goes, Returns, Stops, Traps, calculated, counts_in, effect, int_in, made, object_at, onward, or_trap, place_in, put_object, read_effect, ref_in, row_of, same_name, unless_frozen, with_int, with_object, with_ref}
pub use Rattle.hh_model.specs.Names.{names_from, refs_of, registers, task_names, words_asked, words_for}
pub use Rattle.hh_model.specs.Precedence.{precedes}
pub use Rattle.hh_model.specs.Step.{asked, asked_by, asked_line, can_step, child, child_ended_by, depth_limit, edge, ended_by, ended_task, entry_frame, fetched, follow, forked, frame_limit, goes_on, is_joined, is_left, is_on_path, is_over, is_running, is_waiting, join_of, joined, joined_task, last_of, last_return, or_same, owner_of, parent_of, parents, path_by, result_at, result_in, result_of, resumed, returned_to, root, run, run_from, runs, setting, sibling, start, step, strand, strand_of, through, waits, with_task}
pub use Rattle.hh_model.specs.Store.{IsStored, MakesChildren, TasksStay}
pub use Rattle.hh_model.specs.Tree.{AreLow, HasOneRoot, IsForkJoinState, TreeOf, joins_in, waiting}
pub use Rattle.hh_model.specs.declared.data.Edge.{Edge}
pub use Rattle.hh_model.specs.declared.data.End.TheVariants.{Done, Entangled, Trapped}
pub use Rattle.hh_model.specs.declared.data.End.{End}
pub use Rattle.hh_model.specs.declared.data.Frame.{Frame}
pub use Rattle.hh_model.specs.declared.data.Name.{Name}
pub use Rattle.hh_model.specs.declared.data.Object.{Object}
pub use Rattle.hh_model.specs.declared.data.MachineState.{MachineState}
pub use Rattle.hh_model.specs.declared.data.TaskStatus.TheVariants.{Ended, Joined, Running, Waiting}
pub use Rattle.hh_model.specs.declared.data.TaskStatus.{TaskStatus}
pub use Rattle.hh_model.specs.declared.data.Strand.{Strand}
pub use Rattle.hh_model.specs.declared.data.Task.{Task}
pub use Rattle.hh_model.specs.declared.data.Trap.TheVariants.{Depth, Div, Frozen, Nil, Range, Size}
pub use Rattle.hh_model.specs.declared.data.Trap.{Trap}
