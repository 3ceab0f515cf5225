pub mod RunTold
