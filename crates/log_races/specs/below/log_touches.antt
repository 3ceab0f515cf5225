-- Re-exports from `log_touches` for the crates above.
pub use Rattle.log_touches.specs.declared.numbers.RacesError.{RacesError}
pub use Rattle.log_touches.specs.declared.numbers.RacesError.TheVariants.{NoMemory, TooLong, TooManyStretches}
pub use Rattle.log_touches.specs.Strands.{regions_of_events}
