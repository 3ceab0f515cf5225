-- Re-exports from `hh_model` for the crates above.
pub use Rattle.hh_model.specs.Counts.{Counted, SizesAreBounded, SizesIn}
pub use Rattle.hh_model.specs.Effect.{Calls, Effect, Forks, Goes, Prints, Returns, StepContext, Stops, Traps, calculated, counts_in, effect, int_in, object_at, onward, or_trap, place_in, put_object, read_effect, ref_in, row_of, same_name, with_int, with_object}
pub use Rattle.hh_model.specs.Machine.{IsOfRun, MachineValue}
pub use Rattle.hh_model.specs.Names.{task_names}
pub use Rattle.hh_model.specs.Precedence.{IsEdgeWalk, Precedes, precedes, same_strand}
pub use Rattle.hh_model.specs.Step.{asked, can_step, child, child_ended_by, depth_limit, edge, ended_by, ended_task, entry_frame, fetched, follow, frame_limit, goes_on, is_joined, is_left, is_over, is_running, is_waiting, join_of, joined, joined_task, last_of, last_return, or_same, owner_in, owner_of, parent_of, parents, path_by, path_in, result_at, result_of, resumed, returned_to, run, run_from, runs, setting, sibling, start, step, stepped, strand, strand_of, through, waits, with_task}
pub use Rattle.hh_model.specs.Store.{IsStored, IsWriteTo, NamesAreStoredIn}
pub use Rattle.hh_model.specs.Tree.{joins_in}
pub use Rattle.hh_model.specs.declared.data.Edge.{Edge}
pub use Rattle.hh_model.specs.declared.data.End.TheVariants.{Done, Entangled, Trapped}
pub use Rattle.hh_model.specs.declared.data.End.{End}
pub use Rattle.hh_model.specs.declared.data.Frame.{Frame}
pub use Rattle.hh_model.specs.declared.data.Name.{Name}
pub use Rattle.hh_model.specs.declared.data.Object.{Object}
pub use Rattle.hh_model.specs.declared.data.MachineState.{MachineState}
pub use Rattle.hh_model.specs.declared.data.TaskStatus.TheVariants.{Ended, Joined, Running, Waiting}
pub use Rattle.hh_model.specs.declared.data.TaskStatus.{TaskStatus}
pub use Rattle.hh_model.specs.declared.data.Strand.{Strand}
pub use Rattle.hh_model.specs.declared.data.Task.{Task}
pub use Rattle.hh_model.specs.declared.data.Trap.TheVariants.{Depth, Div, Frozen, Nil, Range, Size}
pub use Rattle.hh_model.specs.declared.data.Trap.{Trap}
