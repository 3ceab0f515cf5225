pub mod PoolValue
pub mod Laws
