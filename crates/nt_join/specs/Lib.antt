pub mod Spots
pub mod Sweeps
pub mod Readable
pub mod Chosen
