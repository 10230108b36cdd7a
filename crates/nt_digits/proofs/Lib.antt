pub mod Digits
pub mod WordDigits
pub mod WordMarks
pub mod WordNumber
