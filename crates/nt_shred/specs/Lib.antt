pub mod Most
pub mod Frame
pub mod Steps
pub mod Places
pub mod Runs
pub mod Walk
pub mod Lines
