-- Re-exports from `step_commit` for the crates above.
pub use Rattle.fork_join_commit.proofs.below.step_commit.{alone_free, runs_on, fits_machine, machine_same, alone_answer, alone_small, slot_there, next_small, set_there, AsksAlone, asks_alone, halt_world, halts_alone, printed_goes, printed_world, some_line, is_safe, tells, child_beyond, other_beyond, trap_is, finishes_alone, finished_world, node_there, has_slot, has_node, apart_cause, few_more, unless_false, fits_on, next_on, ran}
pub use Rattle.fork_join_commit.proofs.below.step_commit.LastSteps as LastSteps
