-- Re-exports from `read_write_all` for the crates above.
pub use Rattle.read_write_all.specs.Bytes.{input_of}
