pub mod Adding
pub mod Below
pub mod Complements
pub mod Lists
pub mod Ready
pub mod Runs
pub mod Trees
