pub mod Grouped
pub mod Uses
pub mod Opened
