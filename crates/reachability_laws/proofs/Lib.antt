mod Walks
mod Kept
