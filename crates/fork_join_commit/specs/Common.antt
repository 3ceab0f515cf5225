-- The names of lower crates that these specifications use. Declares nothing.
pub use Rattle.step_commit.specs.Alone.{alone_entry, machine_after}
pub use Rattle.step_commit.specs.below.chunk_list.{view_below}
pub use Rattle.step_commit.specs.below.chunk_pool.{PoolValue}
pub use Rattle.step_commit.specs.below.core_invariant.{SharedValue, accounts, OthersFit, Enters, rest_at, NotEntered, NoMemory, Refuses}
pub use Rattle.step_commit.specs.below.fork_join.{Child, new_child, no_heap, EndedChild, Side, AreInUse, HasCapacityForBoth, HaveEnded}
pub use Rattle.step_commit.specs.below.heap_tree.{sibling, TaskNode}
pub use Rattle.step_commit.specs.below.hh_lang.{Instr, Ret, Line, ProgramText, Par}
pub use Rattle.step_commit.specs.below.hh_model.{Task, fetched, is_running, parents}
pub use Rattle.step_commit.specs.below.leaf_heap.{HaveDistinctNumbers, LeafHeapValue, merged}
pub use Rattle.step_commit.specs.below.object_layout.{Addr, ChunkValue}
pub use Rattle.step_commit.specs.below.refinement.{handed}
pub use Rattle.step_commit.specs.below.remembered_set.{RefField, RememberedValue, lifted}
pub use Rattle.step_commit.specs.below.run_ledger.{has_no_caller, task_steps, heap_of}
pub use Rattle.step_commit.specs.below.run_trace.{private_limit}
pub use Rattle.step_commit.specs.below.task_frames.{with_next, FramesValue, int_of, ref_of}
pub use Rattle.step_commit.specs.below.task_machine.{Private}
pub use Rattle.step_commit.specs.below.task_slots.{keeping, ParkedTask, Calls, Work, Result}
pub use Rattle.step_commit.specs.below.write_barrier.{SetOf, Content, content_at}
