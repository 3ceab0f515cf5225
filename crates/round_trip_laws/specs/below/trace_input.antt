-- Re-exports from `trace_input` for the crates above.
pub use Rattle.trace_input.specs.Cut.{trace_lines}
pub use Rattle.trace_input.specs.Input.{IsInput, input_fault, settings_for, too_long}
pub use Rattle.trace_input.specs.declared.input.InputFault.TheVariants.{BadLine, Source}
pub use Rattle.trace_input.specs.declared.input.InputFault.{InputFault}
pub use Rattle.trace_input.specs.declared.input.TraceInput.{TraceInput}
