-- Re-exports from `trace_input` for the crates above.
pub use Rattle.trace_input.specs.Input.{IsInput, input_fault, settings_for}
pub use Rattle.trace_input.specs.declared.input.InputFault.{InputFault}
pub use Rattle.trace_input.specs.declared.input.TraceInput.{TraceInput}
