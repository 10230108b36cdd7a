pub mod Firsts
pub mod Orders
pub mod Opening
pub mod Reading
pub mod Keeping
