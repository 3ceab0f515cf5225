-- Re-exports from `or_no_memory` for the crates above.
pub use Rattle.or_no_memory.specs.Refusals.{Reports}
pub use Rattle.or_no_memory.specs.declared.OrNoMemory.TheVariants.{NoMemory, Refused}
pub use Rattle.or_no_memory.specs.declared.OrNoMemory.{OrNoMemory}
