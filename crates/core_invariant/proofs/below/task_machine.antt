-- Re-exports from `task_machine` for the crates above.
pub use Rattle.refinement_laws.proofs.below.task_machine.{Own, allocated_account, born_is, born_object, chunks_added, does, has_line, int_here, ints_index, is_alone, is_some_place, lacks_same, names-push, nil_effect, object_effect, other_at, outline_apart, outline_at, outline_current, outline_kept, outline_size, outline_words, own_object, owned_here, reads, ref_here, refs_index, same_line, shape_added, some_next, some_safe, step_by, steps_more, words_by, x}
