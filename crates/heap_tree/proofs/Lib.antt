mod WalkLemmas
mod TreeLemmas
pub mod ChangeLemmas
mod PairLemmas
mod Common
