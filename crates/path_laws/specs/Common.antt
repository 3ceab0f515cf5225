-- The names of lower crates that these specifications use. Declares nothing.
pub use Rattle.hh_model.specs.below.hh_lang.{ProgramText, Getr, Line}
pub use Rattle.hh_model.specs.Effect.{object_at, Goes, int_in, onward, place_in, read_effect, ref_in, with_ref}
pub use Rattle.hh_model.specs.Names.{refs_at, task_names}
pub use Rattle.hh_model.specs.Precedence.{Precedes}
pub use Rattle.hh_model.specs.Step.{parents, joined, owner_in, path_in, can_step, owner_of, run, step, ended_by, is_running, is_on_path, setting, strand_of, with_task}
pub use Rattle.hh_model.specs.Store.{IsNext}
pub use Rattle.hh_model.specs.Tree.{waiting, AreLow, Tree}
pub use Rattle.hh_model.specs.declared.data.Edge.{Edge}
pub use Rattle.hh_model.specs.declared.data.End.TheVariants.{Entangled}
pub use Rattle.hh_model.specs.declared.data.MachineState.{MachineState}
pub use Rattle.hh_model.specs.declared.data.Name.{Name}
pub use Rattle.hh_model.specs.declared.data.Object.{Object}
pub use Rattle.hh_model.specs.declared.data.Task.{Task}
pub use Rattle.hh_model.specs.below.plain_vec.{In}
