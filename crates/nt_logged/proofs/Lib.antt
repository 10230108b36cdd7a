mod Logging
mod Standing
mod Settling
pub mod Sparing
mod Pieces
pub mod Reading
pub mod Growing
pub mod Written
pub mod Tiles
pub mod Parted
