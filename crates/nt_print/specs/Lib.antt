pub mod Digits
pub mod Integers
pub mod Marks
pub mod Optionals
pub mod Simple
