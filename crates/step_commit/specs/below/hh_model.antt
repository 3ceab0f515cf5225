-- Re-exports from `hh_model` for the crates above.
pub use Rattle.core_invariant.specs.below.hh_model.{AreLow, Closed, Depth, Effect, Ended, Entangled, Frame, Frozen, Goes, IsStored, Joined, Name, Nil, Object, Range, Running, MachineState, TaskStatus, Stops, Task, Trap, Trapped, Traps, TreeOf, Waiting, can_step, child, child_ended_by, depth_limit, edge, effect, ended_by, ended_task, fetched, follow, forked, goes_on, int_in, is_joined, is_left, is_on_path, is_over, is_running, is_waiting, join_of, joined_task, last_of, last_return, object_at, onward, or_same, or_trap, owner_of, parent_of, parents, path_by, place_in, precedes, put_object, read_effect, ref_in, refs_of, result_at, result_in, result_of, resumed, returned_to, runs, same_name, setting, sibling, step, strand, strand_of, task_names, through, unless_frozen, waits, with_int, with_object, with_ref, with_task}
