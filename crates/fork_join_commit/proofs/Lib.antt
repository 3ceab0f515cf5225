pub mod NextStepForks
mod RootsListed
mod LastForkKinds
mod SetsNoted
mod ForkEntered
pub mod ForkEntries
pub mod ChildReturns
mod LastReturnKinds
pub mod ChildEnded
mod MergedHeapForm
mod JoinBelongings
mod JoinTree
mod SiblingReturned
mod JoinedBelongings
mod JoinEntered
pub mod JoinPlaces
mod TwoChildren
pub mod JoinEntries
pub mod JoinTakes
mod JoinUnits
pub mod JoinValue
pub mod below
mod Common
