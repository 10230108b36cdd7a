pub mod Bytes
pub mod Described
pub mod Emptied
pub mod Entries
pub mod Images
mod Left
pub mod Passes
pub mod Gains
mod Ranges
