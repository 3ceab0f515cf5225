mod Empty
mod Swapped
mod Printed
mod Verdicts
mod Common
