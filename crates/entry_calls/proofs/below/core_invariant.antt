-- Re-exports from `core_invariant` for the crates above.
pub use Rattle.leaf_collections.proofs.below.core_invariant.{end_now, steps_now, refused_is, asked_same, second_gives_first, beyond_machine, ran_answer}
pub use Rattle.heap_marking.proofs.below.core_invariant.{same_length, worker_there, found_first, nothing_first, journal_by, four_changed, entry_on, steps_small, ran_world, ran_part, ran_others, fuel_all, fuel_world, at_work, calls, calls_of, has_node, some_calls, took_world, took_part, took_others, halted_fit, used_now, first_by, outputs_now, enough_is, room_fit, room_world, tree_long, took_answer, are_fields}
