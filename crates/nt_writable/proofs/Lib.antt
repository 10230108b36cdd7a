pub mod Same
pub mod Tested
pub mod Loops
pub mod Refused
