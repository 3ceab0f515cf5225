-- Re-exports from `heap_reading` for the crates above.
pub use Rattle.heap_reading.proofs.KeptNames.{handed_held}
pub use Rattle.heap_reading.proofs.TreeNow.{same_machine}
