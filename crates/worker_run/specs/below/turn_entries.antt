-- Re-exports from `turn_entries` for the crates above.
pub use Rattle.turn_entries.specs.Parts.{ComesWith, GoesWith, Sight}
pub use Rattle.turn_entries.specs.declared.between_turns.Ready.{Ready}
