pub mod Steps
pub mod Allowed
pub mod Zips
pub mod Following
pub mod Picking
pub mod Walking
