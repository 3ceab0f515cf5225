mod Drawn
mod EveryEdge
mod Left
mod Loops
mod Titles
mod Running
mod Common
