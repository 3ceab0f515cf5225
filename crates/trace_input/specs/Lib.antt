pub mod Cut
pub mod Input
