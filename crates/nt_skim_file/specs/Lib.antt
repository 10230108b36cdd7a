pub mod Sinks
pub mod Taking
pub mod Whole
pub mod Errors
pub mod Crashes
pub mod Filing
pub mod Choosing
pub mod Storing
