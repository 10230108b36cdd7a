pub mod Envelopes
pub mod Failures
pub mod Steps
pub mod Columns
pub mod Outlines
