mod Entries
mod Common
