mod Ends
mod Told
mod Common
