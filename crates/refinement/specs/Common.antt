-- The names of lower crates that these specifications use. Declares nothing.
pub use Rattle.heap_tree.specs.TaskNode.{TaskNode}
pub use Rattle.heap_tree.specs.declared.state.TaskState.{TaskState}
pub use Rattle.heap_tree.specs.declared.state.TaskState.TheVariants.{Out, Ready, Waiting, Joined}
pub use Rattle.task_machine.specs.below.hh_lang.{ProgramText, Instr, Putr, Puti, Cas, Line}
pub use Rattle.hh_model.specs.Effect.{object_at, place_in, int_in, row_of}
pub use Rattle.hh_model.specs.Step.{is_on_path, is_waiting, result_of, asked, is_joined, is_running, can_step}
pub use Rattle.hh_model.specs.declared.data.End.TheVariants.{Done}
pub use Rattle.hh_model.specs.declared.data.Frame.{Frame}
pub use Rattle.hh_model.specs.declared.data.Name.{Name}
pub use Rattle.hh_model.specs.declared.data.Object.{Object}
pub use Rattle.hh_model.specs.declared.data.Task.{Task}
pub use Rattle.hh_model.specs.declared.data.TaskStatus.{TaskStatus}
pub use Rattle.hh_model.specs.declared.data.TaskStatus.TheVariants.{Running, Ended}
pub use Rattle.ledger_step_laws.specs.Accounts.{Rests, own, rested, ArePrivate, aside, StepsAlone, ChangesHeap, WorkerTakes, SameTasks}
pub use Rattle.ledger_step_laws.specs.Kinds.{JoinsTasks, TasksCanJoin, ForksTask}
pub use Rattle.ledger_step_laws.specs.LastStepCases.{LastKind, Private, Reading, Writing, Printing, Forking, Ending, Joining, Finishing, Halting, IsOfKind}
pub use Rattle.mark_sweep_gc.specs.MarkingValue.{IsMarking, MarkingValue, marked_of}
pub use Rattle.mark_sweep_gc.specs.Snapshot.{Fork, IsInSnapshot}
pub use Rattle.object_layout.specs.Cell.{chunk_words}
pub use Rattle.object_layout.specs.Chunks.{same_address}
pub use Rattle.object_layout.specs.Graph.{HasObjectAt, RefersTo}
pub use Rattle.object_layout.specs.Objects.{Located, led_object}
pub use Rattle.object_layout.specs.declared.word.Addr.{Addr}
pub use Rattle.run_ledger.specs.below.plain_vec.{is_empty}
pub use Rattle.remembered_set.specs.declared.remembered.RefField.{RefField}
pub use Rattle.run_ledger.specs.Entries.{chunk_units}
pub use Rattle.run_ledger.specs.Heaps.{heap_of, collected, take_of, units, within, in_use}
pub use Rattle.run_ledger.specs.Sound.{SoundLedger, collecting}
pub use Rattle.run_ledger.specs.Steps.{task_steps, most_steps}
pub use Rattle.run_ledger.specs.declared.data.Heap.{Heap}
pub use Rattle.run_ledger.specs.declared.data.Ledger.{Ledger}
pub use Rattle.run_ledger.specs.declared.data.RunEnd.{RunEnd}
pub use Rattle.run_ledger.specs.declared.data.RunEnd.TheVariants.{Pool, Machine}
pub use Rattle.run_ledger.specs.below.run_trace.{SettingsValue, field_limit, Kind, Took, Ran, Chunk, Begin, End, PutOff, Mark, More, Sweep, Fuel}
pub use Rattle.task_machine.specs.below.task_frames.{int_of, ref_of, led_frame, CallFrame}
pub use Rattle.task_machine.specs.Place.{name_of}
pub use Rattle.task_machine.specs.declared.part.Begun.{Begun}
pub use Rattle.run_ledger.specs.below.walk_laws.{IsReached}
