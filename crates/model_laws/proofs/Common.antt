-- The names of lower crates and of the specifications that these proofs use. Declares nothing.
pub use Rattle.hh_lang.proofs.Examples.{fun}
pub use Rattle.hh_lang.specs.Form.{ProgramText}
pub use Rattle.hh_lang.specs.declared.instr.Instr.{Instr}
pub use Rattle.hh_lang.specs.declared.instr.Instr.TheVariants.{Set, Newm, Pack, Cas, Par, Putr, Ret, Getr, Puti, Freeze}
pub use Rattle.hh_lang.specs.declared.program.Line.{Line}
pub use Rattle.hh_model.proofs.Changes.{WritesField}
pub use Rattle.hh_model.proofs.ForkJoinStates.{run_is_fork_join_state, start_is_fork_join_state, empty_rows, no_objects}
pub use Rattle.hh_model.proofs.Steps.{Halts, Alters, step_cases}
pub use Rattle.hh_model.proofs.Stores.{put_cases, made_cases}
pub use Rattle.hh_model.proofs.Taken.{step_taken, step_idle}
pub use Rattle.hh_model.proofs.Tree.{owner_not_joined}
pub use Rattle.hh_model.specs.Effect.{object_at, ref_in, Effect, Goes, Stops, StepContext, effect, int_in, onward, or_trap, place_in, read_effect, with_object, with_ref, put_object, with_int, same_name}
pub use Rattle.hh_model.specs.Precedence.{Precedes, precedes}
pub use Rattle.hh_model.specs.Step.{fetched, root, strand, can_step, ended_by, ended_task, follow, goes_on, is_running, joined, owner_of, parents, result_of, run, setting, start, step, strand_of, run_from}
pub use Rattle.hh_model.specs.Store.{IsNext, IsWriteTo, StaysAs}
pub use Rattle.hh_model.specs.Tree.{IsForkJoinState, waiting, joins_in}
pub use Rattle.hh_model.specs.declared.data.End.{End}
pub use Rattle.hh_model.specs.declared.data.End.TheVariants.{Done, Trapped, Entangled}
pub use Rattle.hh_model.specs.declared.data.Frame.{Frame}
pub use Rattle.hh_model.specs.declared.data.MachineState.{MachineState}
pub use Rattle.hh_model.specs.declared.data.Name.{Name}
pub use Rattle.hh_model.specs.declared.data.Object.{Object}
pub use Rattle.hh_model.specs.declared.data.Task.{Task}
pub use Rattle.hh_model.specs.declared.data.Trap.TheVariants.{Nil, Range}
pub use Rattle.model_laws.specs.Winner.{FieldPlace, IsCas, IsPutr, IsTurn, IsUntried, OnlyFromNil, SomeCasWins, Yields, after, FieldHolds, MayWrite, expects, brings, OneWinner}
pub use Rattle.path_laws.proofs.Objects.{made_stays, put_here, put_other, rows_stay, same_stays, stays_on, object_later}
pub use Rattle.path_laws.specs.ReadLaws.{IsDecided, IsRead, IsStopped, ReadsAreDecided, ReadsNext, StopsRead}
pub use Rattle.plain_vec.proofs.Members.{In, got_same, got_other, got_in, got_within}
pub use Rattle.plain_vec.proofs.Options.{none_some}
pub use Rattle.plain_vec.proofs.Places.{got_some}
pub use Rattle.std.proofs.Common.{◌≡◌, ℕ, zero, suc, pos, ◌≤◌, Bool, true, false, Option, Some, None, List, [], ◌∷◌, slice_get, refl, ap, sym, ◌∙◌, arith, cond, length, slice_set, ◌⊎◌, inl, inr, ap₂, is_some, ℤ, negsuc, ◌+◌, ◌-◌, ◌<◌, take, nat_lt, subst, add-one}
pub use Rattle.std.proofs.lemmas.Bool.{false≢true, both_ways, cases_eq, cases_lt, lt-ltb, ltb-true}
pub use Rattle.std.proofs.lemmas.Option.{same_Some}
pub use Rattle.std.specs.Option.{option_flatten}
