pub mod Begun
pub mod EventText
pub mod Texts
pub mod Lengths
pub mod Limits
pub mod Written
pub mod Dealt
pub mod Failing
