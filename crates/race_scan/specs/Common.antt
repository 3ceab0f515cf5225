-- The names of lower crates that these specifications use. Declares nothing.
pub use Rattle.log_places.specs.Blocks.{SlotsDiffer}
pub use Rattle.log_places.specs.Counting.{IsAccessed}
pub use Rattle.log_places.specs.Numbers.{IsSlot, stretch_count}
pub use Rattle.log_places.specs.Places.{Covers, PlacesValue, run_start}
pub use Rattle.log_places.specs.declared.numbers.LocationSlot.{LocationSlot}
pub use Rattle.log_places.specs.declared.region.Region.{Region}
pub use Rattle.plain_vec.specs.Members.{In}
pub use Rattle.race_cells.specs.Laws.{IsExact}
pub use Rattle.race_cells.specs.Order.{StrandOrder, ExtendsPrecedence, MeetsAsInTree}
pub use Rattle.race_cells.specs.Scan.{reported, scanned, after, race_at}
pub use Rattle.race_cells.specs.declared.access.CellAccess.{CellAccess}
pub use Rattle.race_cells.specs.declared.access.CellAccessKind.TheVariants.{PlainWrite}
pub use Rattle.race_cells.specs.declared.access.CellRace.{CellRace}
pub use Rattle.race_cells.specs.declared.stacks.Stacks.{Stacks}
