-- Re-exports from `task_machine` for the crates above.
pub use Rattle.refinement.proofs.below.task_machine.{same_line, int_same, words_for_some, outline_at, outline_size, written_outline, shape_written, born_is, size_pushed, shape_placed, Own, allocated_account, born_object, chunks_added, does, has_line, int_here, ints_index, is_alone, is_some_place, lacks_same, names-push, nil_effect, object_effect, other_at, outline_apart, outline_current, outline_kept, outline_words, own_object, owned_here, reads, ref_here, refs_index, shape_added, some_next, some_safe, step_by, steps_more, words_by, x}
