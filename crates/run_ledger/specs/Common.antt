-- The names of lower crates that these specifications use. Declares nothing.
pub use Rattle.path_laws.specs.below.hh_lang.{ProgramText, IsProgram, most_fields, Instr, Getr, Geti, Putr, Puti, Cntr, Cnti, Freeze, Cas, Par, Ret, Out, Line}
pub use Rattle.path_laws.specs.below.hh_model.{Closed, Counted, object_at, row_of, ref_in, registers, refs_at, task_names, asked, is_running, is_waiting, owner_of, is_on_path, start, run, can_step, run_from, step, waits, strand_of, fetched, is_left, IsStored, waiting, IsForkJoinStateIn, Edge, Done, Trapped, Entangled, Frame, MachineState, Name, Object, Strand, Task, TaskStatus, Running, Waiting, Ended, Joined, Trap, Nil, Range, Frozen, Div, Size, Depth}
pub use Rattle.path_laws.specs.Disentangled.{Disentangled}
pub use Rattle.path_laws.specs.Leaves.{LeavesOwner}
pub use Rattle.plain_vec.specs.Members.{is_empty, In}
pub use Rattle.plain_vec.specs.Options.{option_is}
pub use Rattle.run_trace.specs.Entry.{EntryValue, private_limit}
pub use Rattle.run_trace.specs.Settings.{SettingsValue, field_limit}
pub use Rattle.run_trace.specs.Trace.{trace_text}
pub use Rattle.run_trace.specs.declared.entry.Kind.{Kind}
pub use Rattle.run_trace.specs.declared.entry.Kind.TheVariants.{Ran, Mark, More, Sweep, Took, Chunk, Begin, End, PutOff, Fuel}
pub use Rattle.walk_laws.specs.Reached.{IsReached}
