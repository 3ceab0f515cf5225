-- The names of lower crates and of the specifications that these proofs use. Declares nothing.
pub use Rattle.command_answers.specs.Answers.{AnswersTrace, IsModelled, IsReplay, IsText, WhereTraced, WhereWhole, Refuses, WhereProgram, AnswersText, AnswersProgram, AnswersRun, AnswersTraced, IsRaceAnswer, IsImaged, extras_of, races_status, AnswersImage, AnswersMake, AnswersLine, IsProgramInput, LeavesLine, LeavesMake, IsImageOf, short_of, AnswersVerify, LeavesRun, summary}
pub use Rattle.command_answers.specs.CommandStatus.{status_of_end}
pub use Rattle.command_answers.specs.Delivery.{IsAnswered, Delivered, DeliversNothing, DeliversBy, DeliversResult, ReturnsBlock, GivesFound, ReturnsNothing, ReturnsWanted, IsWanted}
pub use Rattle.command_answers.specs.Headline.{FreesNoReachable, HeapIsHeld, HeapsAreHeld, RunsHoldTheHeadline, StopsUnordered}
pub use Rattle.command_answers.specs.Input.{program_in}
pub use Rattle.command_answers.specs.Laws.{WriteTheSame, ModelWritesTheSame, GivesAll, NoFault, HasProgram, IsEnd, MadeAreAccepted, MadeAreRun, NoFaultGivesAll, ProgramsAreRun, TracesAreReplayed, ImagesAreVerified, ImagesHaveJustHeld, RacelessAreDisentangled, IsRecorded, RecordedRunsAreAlike, MadeAreRead}
pub use Rattle.command_answers.specs.Runs.{IsWholeRun, ReturnsRun, IsReplayedRun, LeavesPrefix, LeavesPaced}
pub use Rattle.command_answers.specs.declared.answer.Answer.{Answer}
pub use Rattle.command_answers.specs.declared.answer.CallResult.{CallResult}
pub use Rattle.command_answers.specs.declared.answer.CommandStatus.TheVariants.{ReadFault, Trap, WriteFault}
pub use Rattle.command_answers.specs.declared.answer.CommandStatus.{CommandStatus}
pub use Rattle.command_answers.specs.declared.wanted.Wanted.TheVariants.{Before, Amid}
pub use Rattle.command_answers.specs.declared.wanted.Wanted.{Wanted}
pub use Rattle.command_line.specs.declared.line.CommandLine.TheVariants.{Check, Run, Replay, Model, Races, Make, Verify}
pub use Rattle.command_line.specs.declared.line.CommandLine.{CommandLine}
pub use Rattle.command_line.specs.declared.line.Options.{Options}
pub use Rattle.heap_reading.proofs.KeptNames.{handed_held}
pub use Rattle.heap_reading.proofs.TreeNow.{same_machine}
pub use Rattle.heap_reading.proofs.below.ledger_step_laws.{split_leaves}
pub use Rattle.heap_reading.proofs.below.refinement.{held_object, object_held}
pub use Rattle.heap_reading.specs.below.core_invariant.{SharedValue, IsSharedValue, accounts, value_of, without_journal}
pub use Rattle.heap_reading.specs.below.ledger_step_laws.{Rests}
pub use Rattle.heap_reading.specs.below.refinement.{BelongingsStand, In, Memory, object_name, handed}
pub use Rattle.made_program_laws.proofs.Made.{made_are_programs}
pub use Rattle.made_program_laws.proofs.below.program_make.{made_are_short}
pub use Rattle.made_program_laws.proofs.below.round_trip_laws.{recorded_inputs_are_read}
pub use Rattle.made_program_laws.specs.below.hh_lang.{ProgramText, IsProgram, program_limit}
pub use Rattle.made_program_laws.specs.below.program_make.{made_text}
pub use Rattle.made_program_laws.specs.below.program_reader.{TextFault, reading_of, program_of}
pub use Rattle.made_program_laws.specs.below.round_trip_laws.{TraceFollows, IsReadAsTrace}
pub use Rattle.made_program_laws.specs.below.run_trace.{EntryValue, SettingsValue, AreTraceLines, Version, Trace, field_limit, Two, trace_text, Kind, Took, Ran, Chunk, Begin, PutOff, Mark, More, Sweep, usual_settings}
pub use Rattle.made_program_laws.specs.below.text_lines.{lines_of, most_bytes}
pub use Rattle.made_program_laws.specs.below.trace_input.{InputFault, TraceInput, trace_lines, IsInput, input_fault, settings_for, Source, BadLine, too_long}
pub use Rattle.race_report.proofs.Raceless.{raceless_journals_are_disentangled}
pub use Rattle.race_report.proofs.below.hh_model.{run_on}
pub use Rattle.race_report.proofs.below.journal_laws.{held_is_undropped, fewer_steps_are_legal}
pub use Rattle.race_report.proofs.below.model_laws.{reads_are_decided}
pub use Rattle.race_report.proofs.below.path_laws.{can_going}
pub use Rattle.race_report.proofs.below.plain_vec.{contains_from_in, in_from_contains, none_is}
pub use Rattle.race_report.proofs.below.run_ledger.{journals_can_be_cut, nothing_reachable_is_freed, first_refused_is_first, entries_move_machine, kind_machine}
pub use Rattle.race_report.specs.Accesses.{accesses}
pub use Rattle.race_report.specs.Report.{IsReport}
pub use Rattle.race_report.specs.Text.{races_text}
pub use Rattle.race_report.specs.below.hh_model.{End, Done, Trapped, Entangled, MachineState, object_at, run, can_step, run_from}
pub use Rattle.race_report.specs.below.run_ledger.{RefusedAt, RunEnd, end_of, refused_as_run, out_text, Machine, Fuel, Pool, Ledger, heap_of, held_in, IsPrefix, is_legal, ledger_of, tasks_of, end_line, machine_of, first_refused, or_short, after, refusal, is_legal_from, tasks_in, Report, opening, report_of, report_lines}
pub use Rattle.race_report.specs.declared.data.Race.{Race}
pub use Rattle.read_write_all.specs.below.io_traits.{with_more}
pub use Rattle.refusal_lines.proofs.below.run_report.{whole_text, report_shown}
pub use Rattle.refusal_lines.specs.Refusals.{refusal_of}
pub use Rattle.refusal_lines.specs.below.run_report.{Extras, report_from, totals_from, report_part}
pub use Rattle.refusal_lines.specs.declared.refusal.Refusal.TheVariants.{Words, Line, Entry, Image}
pub use Rattle.refusal_lines.specs.declared.refusal.Refusal.{Refusal}
pub use Rattle.heap_picture.proofs.below.heap_image.{sound_is_faultless}
pub use Rattle.heap_picture.specs.Held.{HasJustHeld}
pub use Rattle.heap_picture.specs.below.heap_image.{ImageData, text_of}
pub use Rattle.heap_picture.specs.below.image_check.{ImageFault, image_fault, objects_in}
pub use Rattle.std.proofs.Common.{◌≡◌, ◌∙◌, ℕ, List, [], ◌∷◌, ap, ap₂, sym, subst, Option, Some, None, Bool, true, false, inl, inr, ◌⊎◌, ◌≤◌, ◌+◌, length, refl, arith, ◌++◌, codes, ◌≢◌, cond, append-nil, zero, suc, replicate, is_none, append_assoc, rules}
pub use Rattle.std.proofs.lemmas.Bool.{and_parts, le-leb}
pub use Rattle.std.proofs.lemmas.List.{length-append, length-replicate}
pub use Rattle.std.proofs.lemmas.Result.{IfOk-weaker, IfErr-weaker}
pub use Rattle.std.specs.Fmt.{decimal}
pub use Rattle.std.specs.Prelude.{unwrap_or, Result, Ok, Err, IfOk, IfErr, nat_le, string_bytes}
