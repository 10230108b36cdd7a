pub mod Pieces
pub mod Narrow
pub mod Wide
pub mod Joining
pub mod Integers
pub mod Blocks
