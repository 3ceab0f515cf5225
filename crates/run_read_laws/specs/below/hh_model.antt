-- Re-exports from `hh_model` for the crates above.
pub use Rattle.hh_model.specs.Effect.{object_at}
pub use Rattle.hh_model.specs.Precedence.{precedes}
pub use Rattle.hh_model.specs.Step.{owner_of, start}
pub use Rattle.hh_model.specs.declared.data.End.TheVariants.{Entangled}
pub use Rattle.hh_model.specs.declared.data.MachineState.{MachineState}
pub use Rattle.hh_model.specs.declared.data.Name.{Name}
pub use Rattle.hh_model.specs.declared.data.Object.{Object}
