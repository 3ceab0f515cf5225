-- Re-exports from `trace_input` for the crates above.
pub use Rattle.page_frame.specs.below.trace_input.{InputFault, IsInput, TraceInput, input_fault, settings_for}
