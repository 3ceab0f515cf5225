-- Re-exports from `race_scan` for the crates above.
pub use Rattle.race_scan.specs.declared.touch.Touch.{Touch}
pub use Rattle.race_scan.specs.Scan.{HasScanned}
