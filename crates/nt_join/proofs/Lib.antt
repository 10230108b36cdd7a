pub mod Unmet
pub mod Counts
pub mod Blocks
pub mod Joins
pub mod Reach
pub mod Plans
pub mod Places
