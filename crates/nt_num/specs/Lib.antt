pub mod Place
pub mod Cursor
pub mod Faults
pub mod Codes
