-- The names of lower crates and of the specifications that these proofs use. Declares nothing.
pub use Rattle.fork_graph.specs.declared.graph.GraphStrand.{GraphStrand}
pub use Rattle.log_form.specs.Events.{Event, is_on, events_of}
pub use Rattle.log_pieces.specs.Pieces.{events_of_pieces}
pub use Rattle.log_races.specs.Limits.{IsTooLargeFor}
pub use Rattle.log_races.specs.Touches.{told_strand, touches_told, touches_at, touches_from, touches_of}
pub use Rattle.log_tasks.specs.declared.tasks.LogTasks.{LogTasks}
pub use Rattle.log_touches.proofs.Texts.{act_strand}
pub use Rattle.log_touches.specs.Accesses.{touches_of_act}
pub use Rattle.log_touches.specs.Chains.{LogPiecesValue}
pub use Rattle.log_touches.specs.Limits.{of_numbers}
pub use Rattle.log_touches.specs.Strands.{regions_of_events, numbered_from, touches_behind}
pub use Rattle.log_touches.specs.below.log_places.{AreOver, NumberError, OverLimit, NoMemory, AreMarked, stretch_count}
pub use Rattle.log_touches.specs.below.race_scan.{Touch, HasScanned}
pub use Rattle.log_verdict.proofs.Verdicts.{verdicts_of, own_before}
pub use Rattle.log_verdict.specs.Verdict.{AreInSerialOrder}
pub use Rattle.log_verdict.specs.below.run_order.{run_order}
pub use Rattle.log_walk.specs.Value.{WalkValue}
pub use Rattle.plain_vec.proofs.Members.{In, flat_in, in_append_cases}
pub use Rattle.plain_vec.proofs.Options.{some_none}
pub use Rattle.plain_vec.proofs.Places.{all_from}
pub use Rattle.std.proofs.Common.{◌≡◌, ◌<◌, ◌+◌, ◌++◌, ◌∷◌, ◌∙◌, ℕ, zero, suc, Option, None, List, [], length, take, get_or, slice_get, refl, sym, ap, arith, ◌≤◌, Some, AllPairs, inl, inr, subst, Err, IfErr, true}
pub use Rattle.std.proofs.lemmas.List.{take_more, length-take, append_assoc, append-nil}
pub use Rattle.std.proofs.lemmas.List.Kept.{AllPairs-cons}
pub use Rattle.std.proofs.lemmas.Result.{err_from_is_err_and, on_ok_weaker}
pub use Rattle.std.specs.Prelude.{filter, option_copied}
