pub mod Kept
pub mod Found
pub mod Numbers
pub mod Bounds
pub mod Settings
pub mod Spoken
pub mod Wrong
pub mod Single
