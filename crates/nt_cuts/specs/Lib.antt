pub mod Cuts
pub mod Shut
