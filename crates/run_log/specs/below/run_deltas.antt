-- Re-exports from `run_deltas` for the crates above.
pub use Rattle.run_deltas.specs.declared.data.Deed.TheVariants as DeedVariants
pub use Rattle.run_deltas.specs.declared.data.Value.TheVariants as ValueVariants
pub use Rattle.run_deltas.specs.Deeds.{act_of, act_by, step_act_of, deed, deed_of, if_there, number_in, number_place, reference_in}
pub use Rattle.run_deltas.specs.Deltas.{machine_after}
pub use Rattle.run_deltas.specs.Steps.{stepped}
pub use Rattle.run_deltas.specs.declared.data.Deed.{Deed}
pub use Rattle.run_deltas.specs.declared.data.StepDeed.{StepDeed}
pub use Rattle.run_deltas.specs.declared.data.Value.{Value}
pub use Rattle.run_deltas.specs.declared.data.Deed.TheVariants.{Allocates, Counts, Freezes, Prints, Reads, Swaps, Writes}
pub use Rattle.run_deltas.specs.declared.data.Value.TheVariants.{Number, Reference}
