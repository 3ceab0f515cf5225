-- Re-exports from `round_trip_laws` for the crates above.
pub use Rattle.round_trip_laws.specs.RoundTrip.{EndsInFeed, IsReadAsTrace, TraceFollows}
