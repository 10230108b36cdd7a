pub mod Stripes
pub mod Kept
pub mod Vector
