-- Re-exports from `step_commit` for the crates above.
pub use Rattle.step_commit.proofs.AloneEntries.{AsksAlone, alone_small, asks_alone, child_beyond, finished_world, finishes_alone, halt_world, halts_alone, slot_there, is_safe, next_small, node_there, other_beyond, printed_goes, printed_world, runs_on, set_there, trap_is}
pub use Rattle.step_commit.proofs.LastSteps.{alone_answer, alone_free, fits_machine, machine_same, some_line, tells}
pub use Rattle.step_commit.proofs.MoreSteps.{few_more, fits_on, next_on, ran}
pub use Rattle.step_commit.proofs.TaskEnds.{has_slot, has_node}
pub use Rattle.step_commit.proofs.TaskNotOut.{apart_cause, unless_false}
pub use Rattle.step_commit.proofs.LastSteps as LastSteps
