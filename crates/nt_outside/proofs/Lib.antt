pub mod Allowed
pub mod Crashes
pub mod Order
pub mod Known
pub mod Printing
pub mod Ranges
