pub mod Passes
pub mod Context
pub mod Flushes
