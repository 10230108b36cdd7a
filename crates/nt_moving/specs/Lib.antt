pub mod Levels
pub mod Runs
pub mod Moved
