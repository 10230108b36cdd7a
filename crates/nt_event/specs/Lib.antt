pub mod Limits
pub mod Json
pub mod Line
pub mod Plain
pub mod Standing
pub mod Entry
pub mod Lines
pub mod LineParts
