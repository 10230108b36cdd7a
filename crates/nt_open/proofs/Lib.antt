pub mod ByField
pub mod Levels
pub mod Inner
pub mod InOrder
pub mod Marking
pub mod UseLaws
pub mod TypeNames
