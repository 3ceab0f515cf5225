-- The names of lower crates that these specifications use. Declares nothing.
pub use Rattle.hh_lang.specs.Form.{ProgramText, line_at}
pub use Rattle.hh_lang.specs.declared.instr.Instr.{Instr}
pub use Rattle.hh_lang.specs.declared.instr.Instr.TheVariants.{Set, Mov, Movr, Nil, Calc, Same, Jmp, Jz, Newm, Pack, Getr, Geti, Putr, Puti, Cntr, Cnti, Freeze, Cas, Call, Ret, Par}
pub use Rattle.hh_lang.specs.declared.program.Line.{Line}
pub use Rattle.hh_model.specs.Effect.{row_of, calculated, flag, int_eq, object_at, counts_in}
pub use Rattle.hh_model.specs.Step.{asked, is_running, owner_of, parents, path_in, run, runs, step, frame_limit, front_of, last_of, can_step}
pub use Rattle.hh_model.specs.declared.data.Frame.{Frame}
pub use Rattle.hh_model.specs.declared.data.MachineState.{MachineState}
pub use Rattle.hh_model.specs.declared.data.Name.{Name}
pub use Rattle.hh_model.specs.declared.data.Object.{Object}
pub use Rattle.hh_model.specs.declared.data.Task.{Task}
pub use Rattle.leaf_heap.specs.LeafHeapValue.{LeafHeapValue, saturating_words, room_of, HaveDistinctNumbers, IsCurrent, IsReserved, place_for, placed_at, with_object_placed}
pub use Rattle.leaf_heap.specs.below.chunk_list.{Level, seen_at}
pub use Rattle.object_layout.specs.Cell.{Born, Cell, Hole, Mark, Moved, chunk_words, frozen, new_cell, size_of, cell_with_int, with_ref, IsObject, BeginsInFirstUnit}
pub use Rattle.object_layout.specs.ChunkValue.{ChunkValue}
pub use Rattle.object_layout.specs.Chunks.{chunk_at, cell_of, place_in, next_address, object_of, put_object}
pub use Rattle.object_layout.specs.References.{same_reference}
pub use Rattle.object_layout.specs.declared.word.Addr.{Addr}
pub use Rattle.object_layout.specs.declared.word.Birth.{Birth}
pub use Rattle.run_ledger.specs.Heaps.{lacks_room, with_allocation}
pub use Rattle.run_ledger.specs.Steps.{on_asked, task_steps, is_private}
pub use Rattle.run_ledger.specs.declared.data.Heap.{Heap}
pub use Rattle.run_ledger.specs.declared.data.Ledger.{Ledger}
pub use Rattle.task_frames.specs.FramesValue.{int_of, int_written, ref_of, ref_written, FramesValue, pushed, with_next, with_reference, frames_with_int}
pub use Rattle.task_frames.specs.declared.frames.CallFrame.{CallFrame}
