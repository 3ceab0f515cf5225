-- Re-exports from `core_invariant` for the crates above.
pub use Rattle.core_invariant.proofs.BeforeTheEnd.{end_now, fits_now, steps_now, used_now}
pub use Rattle.core_invariant.proofs.CausesTold.{on_is, refused_is}
pub use Rattle.core_invariant.proofs.CollectionUnderWay.{at_part, begun_is}
pub use Rattle.core_invariant.proofs.EntryMade.{entry_on, worker_by_end}
pub use Rattle.core_invariant.proofs.FieldsLed.{belongings_chunks}
pub use Rattle.core_invariant.proofs.FreeChunks.{refs_long}
pub use Rattle.core_invariant.proofs.HeapWords.{words_are}
pub use Rattle.core_invariant.proofs.NextStepAsks.{asked_same, asks_is, asks_two, counted_is, since_is}
pub use Rattle.core_invariant.proofs.PartFitsMachine.{second_gives_first}
pub use Rattle.core_invariant.proofs.StepsEntered.{beyond_machine, ran_answer, status}
pub use Rattle.core_invariant.proofs.TaskTaken.{parent_is, some_flat}
