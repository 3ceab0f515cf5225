mod Checks
mod Common
