pub mod Appending
pub mod Claims
pub mod Ending
pub mod Holds
pub mod Images
pub mod Lists
pub mod Locked
