-- Re-exports from `task_machine` for the crates above.
pub use Rattle.task_machine.proofs.Accounted.{outline_apart, outline_current, outline_kept, words_by, words_for_some}
pub use Rattle.task_machine.proofs.Added.{chunks_added, shape_added}
pub use Rattle.task_machine.proofs.Agreement.{has_line, same_line, some_next, some_safe}
pub use Rattle.task_machine.proofs.Allocations.{is_some_place}
pub use Rattle.task_machine.proofs.Behind.{steps_more}
pub use Rattle.task_machine.proofs.Counted.{lacks_same, names-push, size_pushed}
pub use Rattle.task_machine.proofs.Fitting.{int_same, is_alone, step_by, x}
pub use Rattle.task_machine.proofs.Ledgers.{allocated_account}
pub use Rattle.task_machine.proofs.Outlines.{outline_at, outline_size, outline_words, written_outline}
pub use Rattle.task_machine.proofs.OwnReads.{Own, ints_index, nil_effect, object_effect, owned_here, reads, refs_index}
pub use Rattle.task_machine.proofs.Owned.{born_is, born_object, other_at, own_object}
pub use Rattle.task_machine.proofs.Placed.{shape_placed}
pub use Rattle.task_machine.proofs.Registers.{does, int_here, ref_here}
pub use Rattle.task_machine.proofs.Written.{shape_written}
