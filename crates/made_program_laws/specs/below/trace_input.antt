-- Re-exports from `trace_input` for the crates above.
pub use Rattle.round_trip_laws.specs.below.trace_input.{trace_lines, IsInput, input_fault, settings_for, too_long, BadLine, Source, InputFault, TraceInput}
