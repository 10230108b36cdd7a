pub mod Describing
pub mod Reading
pub mod ByName
pub mod Schema
pub mod Extending
pub mod Whole
