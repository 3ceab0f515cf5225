-- Re-exports from `refinement_laws` for the crates above.
pub use Rattle.refinement_laws.proofs.notes.Begun.{begins}
pub use Rattle.refinement_laws.proofs.notes.MarksAll.{NamedOnce, all_marked, few_marked, marks_are_all}
pub use Rattle.refinement_laws.proofs.notes.SnapshotNow.{snapshot_now}
pub use Rattle.refinement_laws.proofs.parts.All.{all_fit_together}
pub use Rattle.refinement_laws.proofs.parts.OwnFits.{ends_fit_then}
pub use Rattle.refinement_laws.proofs.parts.NonMovingEntries.{aside_is}
pub use Rattle.refinement_laws.proofs.parts.RanFits.{ran_fits_then}
pub use Rattle.refinement_laws.proofs.parts.Sets.{frames_go, numbers_go}
pub use Rattle.refinement_laws.proofs.parts.Workers.{ran_leaves}
pub use Rattle.refinement_laws.proofs.parts.WorkersPast.{ends_leave, sweeps_leave}
pub use Rattle.refinement_laws.proofs.whole.DoneReturns.{done_returns_all, others_idle}
pub use Rattle.refinement_laws.proofs.whole.EntriesWhole.{ends_stand_for, sweeps_stand_for}
pub use Rattle.refinement_laws.proofs.whole.HandedBack.{handed_halt, handed_on}
pub use Rattle.refinement_laws.proofs.whole.RanWhole.{ran_stands_for}
