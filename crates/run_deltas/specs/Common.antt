-- The names of lower crates that these specifications use. Declares nothing.
pub use Rattle.hh_lang.specs.Form.{ProgramText, line_at}
pub use Rattle.hh_lang.specs.declared.instr.Instr.{Instr}
pub use Rattle.hh_lang.specs.declared.instr.Instr.TheVariants.{Newm, Pack, Getr, Geti, Putr, Puti, Cntr, Cnti, Freeze, Cas, Out}
pub use Rattle.hh_lang.specs.declared.program.Line.{Line}
pub use Rattle.hh_model.specs.Effect.{object_at, int_in, ref_in, counts_in, place_in, same_name}
pub use Rattle.hh_model.specs.Names.{next_name, task_names}
pub use Rattle.hh_model.specs.Step.{can_step, fetched, owner_of, start, step, is_left}
pub use Rattle.hh_model.specs.declared.data.Frame.{Frame}
pub use Rattle.hh_model.specs.declared.data.MachineState.{MachineState}
pub use Rattle.hh_model.specs.declared.data.Name.{Name}
pub use Rattle.hh_model.specs.declared.data.Object.{Object}
pub use Rattle.hh_model.specs.declared.data.Task.{Task}
pub use Rattle.hh_model.specs.declared.data.TaskStatus.{TaskStatus}
pub use Rattle.hh_model.specs.declared.data.TaskStatus.TheVariants.{Running, Waiting, Ended, Joined}
pub use Rattle.run_ledger.specs.Heaps.{begun_in, marked_in}
pub use Rattle.run_ledger.specs.Reachable.{holds_name}
pub use Rattle.run_ledger.specs.declared.data.Heap.{Heap}
pub use Rattle.run_ledger.specs.declared.data.Ledger.{Ledger}
pub use Rattle.run_names.specs.Names.{line_number}
pub use Rattle.run_trace.specs.Entry.{EntryValue}
pub use Rattle.run_trace.specs.declared.entry.Kind.{Kind}
pub use Rattle.run_trace.specs.declared.entry.Kind.TheVariants.{Took, Ran, Chunk, Begin, End, PutOff, Mark, More, Sweep, Fuel}
