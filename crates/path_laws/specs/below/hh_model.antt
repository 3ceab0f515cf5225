-- Re-exports from `hh_model` for the crates above.
pub use Rattle.hh_model.specs.declared.data.End.{End}
pub use Rattle.hh_model.specs.Effect.{onward, Effect, StepContext, effect, made, object_at, counts_in, int_in, or_trap, Goes, Prints, Calls, Forks, Returns, Traps, Stops, row_of, put_object, ref_in, with_object, read_effect, calculated, place_in, same_name}
pub use Rattle.hh_model.specs.Names.{words_asked, words_for, refs_at, registers, task_names, names_of_references, names_from}
pub use Rattle.hh_model.specs.Precedence.{precedes}
pub use Rattle.hh_model.specs.Step.{runs, is_running, child, joined_task, resumed, ended_task, result_of, step, can_step, asked, asked_by, asked_line, fetched, is_left, setting, follow, called, returned, returned_to, last_return, child_ended_by, last_of, result_at, sibling, or_same, join_of, ended_by, frame_limit, depth_limit, is_waiting, is_joined, parents, joined, owner_of, is_on_path, root, start, stepped, run_from, waits, is_over, parent_of, owner_in, goes_on, strand, strand_of, edge, run}
pub use Rattle.hh_model.specs.Store.{IsStored}
pub use Rattle.hh_model.specs.declared.data.Edge.{Edge}
pub use Rattle.hh_model.specs.declared.data.End.TheVariants.{Trapped, Done, Entangled}
pub use Rattle.hh_model.specs.declared.data.Frame.{Frame}
pub use Rattle.hh_model.specs.declared.data.MachineState.{MachineState}
pub use Rattle.hh_model.specs.declared.data.Name.{Name}
pub use Rattle.hh_model.specs.declared.data.Object.{Object}
pub use Rattle.hh_model.specs.declared.data.Task.{Task}
pub use Rattle.hh_model.specs.declared.data.TaskStatus.{TaskStatus}
pub use Rattle.hh_model.specs.declared.data.TaskStatus.TheVariants.{Waiting, Running, Ended, Joined}
pub use Rattle.hh_model.specs.declared.data.Trap.{Trap}
pub use Rattle.hh_model.specs.declared.data.Trap.TheVariants.{Size, Range, Frozen, Div, Depth, Nil}
pub use Rattle.hh_model.specs.Closed.{Closed}
pub use Rattle.hh_model.specs.Counts.{Counted}
pub use Rattle.hh_model.specs.Tree.{waiting, IsForkJoinStateIn}
pub use Rattle.hh_model.specs.declared.data.Strand.{Strand}
