pub mod Appended
pub mod Filled
