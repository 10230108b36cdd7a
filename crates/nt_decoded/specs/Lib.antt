pub mod Windows
pub mod Pages
pub mod Columns
