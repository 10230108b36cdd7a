pub mod Ranges
pub mod Gathering
pub mod Listing
pub mod Fields
pub mod Shown
