-- Re-exports from `log_places` for the crates above.
pub use Rattle.log_places.specs.declared.numbers.NumberError.{NumberError}
pub use Rattle.log_places.specs.declared.numbers.NumberError.TheVariants.{NoMemory, OverLimit}
pub use Rattle.log_places.specs.Places.{IsRegionCut, PlacesValue}
pub use Rattle.log_places.specs.Numbers.{stretch_count}
pub use Rattle.log_places.specs.Counting.{AreMarked, AreOver}
