-- Re-exports from `run_ledger` for the crates above.
pub use Rattle.core_invariant.proofs.below.run_ledger.{Born, Full, birth_cases, born_both, born_from, born_is, born_on, collections_keep_just, heap_machine, heap_words, holds_from_in, in_birth, in_from_holds, insert_cases, kept_weight, use_is_bounded, machine_is_run, steps_are_bounded}
