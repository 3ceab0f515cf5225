-- Re-exports from `hh_model` for the crates above.
pub use Rattle.refinement.specs.below.hh_model.{counts_in, place_in, Done, Trapped, Entangled, MachineState, Running, Task, is_waiting, TaskStatus, Waiting, Ended, Joined, is_running, runs, Name, object_at, Frame, words_asked, words_for, asked, asked_by, asked_line, fetched, row_of, is_joined, Object, is_on_path, parents, run, run_from, start, step, can_step, goes_on, parent_of, owner_of, Div, Nil, Range, Frozen, Size, Depth, AreLow, Calls, Closed, Counted, Edge, Effect, End, Goes, HasOneRoot, IsForkJoinState, IsStored, MakesChildren, Returns, Stops, Strand, TasksStay, Trap, Traps, TreeOf, calculated, child, child_ended_by, depth_limit, edge, effect, ended_by, ended_task, entry_frame, follow, forked, frame_limit, int_in, is_left, is_over, join_of, joined, joined_task, joins_in, last_of, last_return, made, onward, or_same, or_trap, path_by, precedes, put_object, read_effect, ref_in, refs_of, result_at, result_in, result_of, resumed, returned_to, same_name, setting, sibling, strand, strand_of, task_names, through, unless_frozen, waiting, waits, with_int, with_object, with_ref, with_task}
