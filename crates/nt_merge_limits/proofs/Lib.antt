pub mod Lists
pub mod Fronts
pub mod Passed
pub mod Closing
