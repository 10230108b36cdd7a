pub mod Lists
pub mod Weights
pub mod Steps
pub mod Working
pub mod Placed
