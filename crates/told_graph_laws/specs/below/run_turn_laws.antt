-- Re-exports from `run_turn_laws` for the crates above.
pub use Rattle.run_turn_laws.specs.Turns.{FollowTurns, turns_told}
pub use Rattle.run_turn_laws.specs.below.log_lines.{Act, Access, Yield, Store, Birth, Release, Work, Spawn, Join, Finish}
