mod Machines
pub mod Calculating
