-- The names of lower crates that these specifications use. Declares nothing.
pub use Rattle.command_line.specs.declared.line.CommandLine.{CommandLine}
pub use Rattle.command_line.specs.declared.line.CommandLine.TheVariants.{Check, Run, Replay, Model, Races, Make, Verify}
pub use Rattle.command_line.specs.declared.line.Options.{Options}
pub use Rattle.heap_reading.specs.below.core_invariant.{SharedValue, accounts, IsSharedValue, without_journal, value_of}
pub use Rattle.heap_reading.specs.below.ledger_step_laws.{Rests}
pub use Rattle.heap_reading.specs.below.object_layout.{Located}
pub use Rattle.heap_reading.specs.below.refinement.{IsModelObject, LiesWithOwner, In, Memory, object_name, objects, handed}
pub use Rattle.made_program_laws.specs.below.hh_lang.{ProgramText, program_limit}
pub use Rattle.made_program_laws.specs.below.program_make.{made_text, size_limit}
pub use Rattle.made_program_laws.specs.below.program_reader.{TextFault, program_of, reading_of}
pub use Rattle.made_program_laws.specs.below.run_trace.{SettingsValue, field_limit, usual_settings, EntryValue, Two, IsEntry, trace_text}
pub use Rattle.made_program_laws.specs.below.text_lines.{most_bytes}
pub use Rattle.race_report.specs.Accesses.{accesses}
pub use Rattle.race_report.specs.Report.{IsReport}
pub use Rattle.race_report.specs.Text.{races_text}
pub use Rattle.race_report.specs.below.hh_model.{End, Done, Trapped, Entangled, Name, Object, MachineState, Task, object_at, can_step, run, IsStored}
pub use Rattle.race_report.specs.below.path_laws.{IsDecided, ReadsNext}
pub use Rattle.race_report.specs.below.run_ledger.{RunEnd, Short, end_of, refused_as_run, machine_of, tasks_of, end_line, out_text, Machine, Fuel, Pool, end_status, Ledger, heap_of, held, held_in, IsPrefix, ledger_of, opening, IsDropped, KeepsReachable, is_legal, is_paced}
pub use Rattle.race_report.specs.declared.data.Race.{Race}
pub use Rattle.read_write_all.specs.Bytes.{WroteSome, source_bytes}
pub use Rattle.read_write_all.specs.below.io_traits.{with_more}
pub use Rattle.refusal_lines.specs.Refusals.{refusal_line, refusal_of}
pub use Rattle.refusal_lines.specs.below.run_report.{Extras}
pub use Rattle.refusal_lines.specs.declared.refusal.Refusal.{Refusal}
pub use Rattle.refusal_lines.specs.declared.refusal.Refusal.TheVariants.{Words, Source, Entry, Image, Line}
pub use Rattle.made_program_laws.specs.below.round_trip_laws.{EndsInFeed}
pub use Rattle.made_program_laws.specs.below.trace_input.{InputFault, TraceInput, input_fault, settings_for, IsInput, too_long}
pub use Rattle.heap_picture.specs.Drawn.{IsPictureOf}
pub use Rattle.heap_picture.specs.Held.{HasJustHeld}
pub use Rattle.heap_picture.specs.below.heap_image.{ImageData, IsSoundPicture, text_of}
pub use Rattle.heap_picture.specs.below.image_check.{ImageFault, image_fault, objects_in}
