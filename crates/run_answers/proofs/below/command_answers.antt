-- Re-exports from `command_answers` for the crates above.
pub use Rattle.command_answers.proofs.Answered.{answered}
pub use Rattle.command_answers.proofs.Deliveries.{IsSilent, nothing_given, found_given, found_no_read}
pub use Rattle.command_answers.proofs.Runs.{handed}
pub use Rattle.command_answers.proofs.Traces.{made_left, made_run, text_made}
