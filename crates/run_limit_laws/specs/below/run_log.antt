-- Re-exports from `run_log` for the crates above.
pub use Rattle.run_log.specs.Acts.{field_count}
pub use Rattle.run_log.specs.Lines.{act_line, deed_lines, entry_lines, lines_from, lines_of_deed, step_lines, steps_lines, strand_lines}
pub use Rattle.run_log.specs.Log.{end_lines, log_of}
pub use Rattle.run_log.specs.Sites.{accesses_field}
