pub mod Taken
pub mod Holding
pub mod Newest
pub mod Ranges
pub mod Refusing
