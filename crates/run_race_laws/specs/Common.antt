-- The names of lower crates that these specifications use. Declares nothing.
pub use Rattle.hh_model.specs.Effect.{object_at}
pub use Rattle.hh_model.specs.declared.data.Object.{Object}
pub use Rattle.log_places.specs.Places.{Covers}
pub use Rattle.log_places.specs.declared.region.Region.{Region}
pub use Rattle.log_touches.specs.Accesses.{access_of, region_of}
pub use Rattle.log_touches.specs.declared.access.ActAccess.{ActAccess}
pub use Rattle.race_cells.specs.CellAccess.{clash}
pub use Rattle.race_cells.specs.declared.access.CellAccessKind.{CellAccessKind}
pub use Rattle.race_cells.specs.declared.access.CellAccessKind.TheVariants.{AtomicRead, AtomicWrite, PlainRead, PlainWrite}
pub use Rattle.race_report.specs.Accesses.{accesses, object_references}
pub use Rattle.race_report.specs.Races.{RaceAt}
pub use Rattle.race_report.specs.declared.data.Field.{Field}
pub use Rattle.race_report.specs.declared.data.FieldAccess.{FieldAccess}
pub use Rattle.run_log_laws.specs.Graph.{in_log}
pub use Rattle.run_log_laws.specs.below.fork_graph.{GraphStrand, StrandPrecedes, TaskTurns}
pub use Rattle.run_log_laws.specs.below.hh_lang.{ProgramText}
pub use Rattle.run_log_laws.specs.below.plain_vec.{In}
pub use Rattle.run_turn_laws.specs.Events.{events_told}
pub use Rattle.run_turn_laws.specs.Turns.{turns_told}
pub use Rattle.run_turn_laws.specs.below.log_form.{Event}
pub use Rattle.run_turn_laws.specs.below.log_lines.{Act}
pub use Rattle.run_turn_laws.specs.below.run_log.{block_of, lines_of, location}
pub use Rattle.run_turn_laws.specs.below.run_ledger.{is_legal, machine_of, tasks_of}
pub use Rattle.run_turn_laws.specs.below.run_trace.{EntryValue, SettingsValue, field_limit}
