-- The objects of chunks, read and mapped, and their layout.
pub mod Carry
pub mod Members
pub mod LaidOut
pub mod Mapped
pub mod Merged
pub mod Untouched
