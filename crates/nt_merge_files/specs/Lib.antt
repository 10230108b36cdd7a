pub mod Files
pub mod Errors
pub mod Whole
pub mod Crashes
pub mod Storing
