-- The names of lower crates that these specifications use. Declares nothing.
pub use Rattle.chunk_list.specs.View.{Level}
pub use Rattle.copying_gc.specs.Laid.{AreNew}
pub use Rattle.copying_gc.specs.Lists.{HasReservedLists}
pub use Rattle.copying_gc.specs.Survivors.{as_reference}
pub use Rattle.copying_gc.specs.declared.lists.ToChunks.{ToChunks}
pub use Rattle.leaf_heap.specs.LeafHeapValue.{LeafHeapValue, place_for, room_of, with_places, HaveDistinctNumbers, IsFresh, AreTidy, CellsFitInChunks}
pub use Rattle.refinement_laws.specs.below.refinement.{Part, part_for, In, Belongings, Memory, object_name, objects, Noted, TreeCounts, StandsForAll, WorkerFits}
pub use Rattle.refinement_laws.specs.below.heap_tree.{TaskState, Ready, Out, Waiting, Ended, Joined, state_of, TaskNode}
pub use Rattle.refinement_laws.specs.below.hh_lang.{ProgramText, Instr, Newm, Pack, Calc, Getr, Geti, Putr, Puti, Cntr, Cnti, Freeze, Cas, Call, Par, Ret, Line, line_at, IsProgram}
pub use Rattle.refinement_laws.specs.below.hh_model.{Name, MachineState, Task, Div, Nil, Range, Frozen, Size, Depth, counts_in, place_in, words_for, fetched}
pub use Rattle.refinement_laws.specs.below.ledger_step_laws.{aside, rested, own}
pub use Rattle.refinement_laws.specs.below.mark_sweep_gc.{MarkingValue}
pub use Rattle.refinement_laws.specs.below.object_layout.{Addr, Birth, Born, cell_of, ChunkValue, small_words, number_of, IsSoundReference, Located, chunk_words, Cell, object_of, chunk_at}
pub use Rattle.refinement_laws.specs.below.plain_vec.{ReservedVecValue}
pub use Rattle.refinement_laws.specs.below.remembered_set.{targets_of}
pub use Rattle.refinement_laws.specs.below.run_ledger.{Refused, Collecting, Due, Over, Spent, NoWorker, NotNeeded, NotReady, NotSpent, RunEnd, refused_if, refused_unless, refused_holding, NotDue, units, refusal, Ledger, heap_of, task_steps, is_name, has_no_caller, owns, touched, ledger_of, is_legal}
pub use Rattle.refinement_laws.specs.below.run_trace.{Kind, Took, Ran, Chunk, Begin, End, PutOff, Mark, More, Sweep, Fuel, SettingsValue, EntryValue, field_limit, AreSettings}
pub use Rattle.refinement_laws.specs.below.task_frames.{FramesValue, CallFrame, int_of, ref_of}
pub use Rattle.refinement_laws.specs.below.task_machine.{Private, is_part_due, Places, FitsNow, Begun, IsLastLarge, IsLastSmall, HeapIsShaped}
pub use Rattle.task_slots.specs.RestingHeaps.{Resting, resting_references}
pub use Rattle.task_slots.specs.below.chunk_pool.{PoolValue, slot_at, one_unit, owner_of, units_in_use}
pub use Rattle.task_slots.specs.below.write_barrier.{SetOf}
pub use Rattle.task_slots.specs.declared.task_at_rest.ParkedTask.{ParkedTask}
pub use Rattle.task_slots.specs.declared.task_at_rest.Work.{Work}
pub use Rattle.task_slots.specs.declared.task_at_rest.Work.TheVariants.{Calls, Result}
