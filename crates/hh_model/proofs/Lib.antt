pub mod Lists
pub mod Climbs
pub mod Walks
pub mod Paths
pub mod Tree
pub mod Joins
mod Forks
pub mod Stores
pub mod Runs
pub mod ForkJoinStates
pub mod Carried
pub mod Changes
pub mod Steps
pub mod Closed
pub mod Counts
pub mod Taken
pub mod Calculating
mod Acts
pub mod Numbers
pub mod Next
pub mod Root
pub mod EndLaws
pub mod Sizes
pub mod below
mod Common
