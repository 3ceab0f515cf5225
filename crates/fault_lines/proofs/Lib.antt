mod Pieces
mod Values
mod Common
