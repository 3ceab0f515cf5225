-- Re-exports from `program_reader` for the crates above.
pub use Rattle.program_reader.specs.declared.cause.TextFault.{TextFault}
