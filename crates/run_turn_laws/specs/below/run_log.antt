-- Re-exports from `run_log` for the crates above.
pub use Rattle.run_log.specs.Acts.{act_of_deed, block_of, location}
pub use Rattle.run_log.specs.Lines.{left_of, moved_lines, turn_lines}
pub use Rattle.run_log.specs.Log.{lines_of}
