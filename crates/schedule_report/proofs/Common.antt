-- The names of lower crates and of the specifications that these proofs use. Declares nothing.
pub use Rattle.hh_model.specs.Effect.{Effect, Goes, StepContext, Stops, Traps, calculated, counts_in, effect, int_in, object_at, onward, or_trap, place_in, put_object, read_effect, ref_in, same_name, unless_frozen, with_int, with_object, with_ref}
pub use Rattle.hh_model.specs.Precedence.{Precedes, precedes}
pub use Rattle.hh_model.specs.Step.{can_step, fetched, run, setting, start, step, strand_of}
pub use Rattle.hh_model.specs.declared.data.Edge.{Edge}
pub use Rattle.hh_model.specs.declared.data.End.{End}
pub use Rattle.hh_model.specs.declared.data.End.TheVariants.{Done}
pub use Rattle.hh_model.specs.declared.data.Frame.{Frame}
pub use Rattle.hh_model.specs.declared.data.MachineState.{MachineState}
pub use Rattle.hh_model.specs.declared.data.Name.{Name}
pub use Rattle.hh_model.specs.declared.data.Object.{Object}
pub use Rattle.hh_model.specs.declared.data.Strand.{Strand}
pub use Rattle.hh_model.specs.declared.data.Task.{Task}
pub use Rattle.hh_model.specs.declared.data.Trap.{Trap}
pub use Rattle.hh_model.specs.declared.data.Trap.TheVariants.{Range, Frozen, Div, Size}
pub use Rattle.race_report.proofs.Raceless.{machine_ended}
pub use Rattle.race_report.proofs.below.plain_vec.{contains_from_in, in_from_contains, not_zero}
pub use Rattle.race_report.specs.Accesses.{with_some, accesses}
pub use Rattle.race_report.specs.Races.{IsPair, IsRace}
pub use Rattle.race_report.specs.Report.{IsReport}
pub use Rattle.race_report.specs.Sights.{line_said, print_field, said_by, said_from, said_of, task_said, plain, swap_if, swaps_of, looked}
pub use Rattle.race_report.specs.StopLaw.{HasNoRace}
pub use Rattle.race_report.specs.below.hh_lang.{Instr, Set, Mov, Movr, Nil, Calc, Same, Jmp, Jz, Newm, Pack, Getr, Geti, Putr, Puti, Cntr, Cnti, Freeze, Cas, Call, Par, Ret, Out, Line, ProgramText}
pub use Rattle.race_report.specs.below.run_trace.{EntryValue, SettingsValue, field_limit}
pub use Rattle.race_report.specs.declared.data.FieldAccess.{FieldAccess}
pub use Rattle.race_report.specs.declared.data.Race.{Race}
pub use Rattle.race_report.specs.declared.data.Sight.TheVariants.{Prints}
pub use Rattle.renaming_laws.proofs.Runs.{fork_join_here}
pub use Rattle.run_ledger.specs.Journals.{machine_of, tasks_of}
pub use Rattle.schedule_laws.proofs.CanGoOn.{every_run_goes_on}
pub use Rattle.schedule_laws.proofs.RaceFree.{ordered_is_race_free}
pub use Rattle.schedule_laws.proofs.Schedules.{every_end_agrees}
pub use Rattle.schedule_laws.specs.Laws.{SpeaksUp}
pub use Rattle.schedule_laws.specs.Ordered.{SwapsContend, IsOrdered}
pub use Rattle.schedule_laws.specs.Prints.{Print, PrintsAreOrdered, line_print, print_by, print_of, prints, prints_from, task_print}
pub use Rattle.schedule_report.specs.Laws.{AgreeingRunsSpeakForAll, Follows, HasPrintsOrdered, Means, SaysAgree, VerdictsAreExact}
pub use Rattle.schedule_report.specs.Schedules.{AreClashes, verdict_of}
pub use Rattle.schedule_report.specs.declared.data.Clashes.{Clashes}
pub use Rattle.schedule_report.specs.declared.data.Verdict.{Verdict}
pub use Rattle.schedule_report.specs.declared.data.Verdict.TheVariants.{Agree, AgreeButForPrints, MayDiffer}
pub use Rattle.std.proofs.Common.{◌≡◌, ℕ, List, [], ◌∷◌, inl, refl, zero, suc, ◌==◌, Bool, true, false, cond, Option, Some, None, length, slice_get, inr, sym, subst, ◌∙◌, ◌<◌, ap, arith, ◌+◌, ◌-◌, ◌^◌, min, lit<, append_assoc}
pub use Rattle.std.proofs.lemmas.Bool.{both_ways, cases_Bool}
pub use Rattle.std.proofs.lemmas.Option.{same_Some}
pub use Rattle.std.proofs.lemmas.Result.{IfOk-weaker}
pub use Rattle.std.specs.Option.{option_flatten}
pub use Rattle.std.specs.Prelude.{slice_set, pos}
