-- Re-exports from `hh_model` for the crates above.
pub use Rattle.refinement_laws.specs.below.hh_model.{AreLow, Calls, Closed, Counted, Depth, Div, Done, Edge, Effect, End, Ended, Entangled, Frame, Frozen, Goes, HasOneRoot, IsForkJoinState, IsStored, Joined, MakesChildren, Name, Nil, Object, Range, Returns, Running, Size, MachineState, TaskStatus, Stops, Strand, Task, TasksStay, Trap, Trapped, Traps, TreeOf, Waiting, asked, calculated, can_step, child, child_ended_by, counts_in, depth_limit, edge, effect, ended_by, ended_task, entry_frame, fetched, follow, forked, frame_limit, goes_on, int_in, is_joined, is_left, is_on_path, is_over, is_running, is_waiting, join_of, joined, joined_task, joins_in, last_of, last_return, made, object_at, onward, or_same, or_trap, owner_of, parent_of, parents, path_by, place_in, precedes, put_object, read_effect, ref_in, refs_of, result_at, result_in, result_of, resumed, returned_to, row_of, run, run_from, runs, same_name, setting, sibling, start, step, strand, strand_of, task_names, through, unless_frozen, waiting, waits, with_int, with_object, with_ref, with_task, words_asked, words_for}
