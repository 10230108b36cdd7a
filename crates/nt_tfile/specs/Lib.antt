pub mod Failures
pub mod Calls
pub mod Places
