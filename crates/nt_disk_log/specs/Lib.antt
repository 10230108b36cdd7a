pub mod Rows
pub mod Logged
pub mod Left
pub mod Leaves
