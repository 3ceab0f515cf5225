-- The names of lower crates that these specifications use. Declares nothing.
pub use Rattle.core_invariant.specs.Causes.{or_else}
pub use Rattle.core_invariant.specs.Entered.{refused, Enters}
pub use Rattle.core_invariant.specs.WorkerPartFits.{EachPartStillFits}
pub use Rattle.core_invariant.specs.Roots.{heaps_of, sources_of}
pub use Rattle.core_invariant.specs.SharedValue.{SharedValue, accounts, marks_at, noted_in, rest_at, value_of}
pub use Rattle.core_invariant.specs.Stands.{IsSharedValue}
pub use Rattle.core_invariant.specs.below.chunk_pool.{PoolValue, slot_at}
pub use Rattle.core_invariant.specs.below.copying_gc.{frame_references}
pub use Rattle.core_invariant.specs.below.heap_tree.{TaskState, Ready, Out, Waiting, Ended, Joined, TaskNode, state_of, parent_of}
pub use Rattle.core_invariant.specs.below.hh_model.{is_waiting, Strand, Task, joined, parents, strand_of, waits}
pub use Rattle.core_invariant.specs.below.leaf_heap.{LeafHeapValue, with_places}
pub use Rattle.core_invariant.specs.below.mark_sweep_gc.{MarkingValue, IsAllMarked, IsMarking, Fork, IsSince, IsOf, marked_of, HasCapacityForAll, IsDone, AreGiven, gone_of, swept}
pub use Rattle.core_invariant.specs.below.object_layout.{Addr, HeapIsClosed, HasObjectAt, Located, ChunkValue}
pub use Rattle.core_invariant.specs.below.plain_vec.{option_is}
pub use Rattle.core_invariant.specs.below.refinement.{kept, In, Memory, HoldsAt, IsRememberedRoot, CanGoOnMarking, MarksStand, IsMarked}
pub use Rattle.core_invariant.specs.below.remembered_set.{RefField, into, targets_of}
pub use Rattle.core_invariant.specs.below.run_ledger.{Refused, Left, Marked, Marking, NotDue, NotMarking, NotWaiting, Swept, unless_wrong_number, kind_refusal, refused_if, refused_unless, heap_of, left_in, marked_in, sweep_number, words_in, Ledger, after, Previous, Other, Ran, Forked, WorkerPace, is_unmarked, waits_on}
pub use Rattle.core_invariant.specs.below.run_trace.{Mark, More, Sweep, SettingsValue, Kind, EntryValue}
pub use Rattle.core_invariant.specs.below.task_frames.{CallFrame, frames_of}
pub use Rattle.core_invariant.specs.below.task_slots.{ParkedTask, Work, Calls, Result, Resting, resting_references}
pub use Rattle.core_invariant.specs.below.write_barrier.{SetOf}
