pub mod History
pub mod View
pub mod Tickets
pub mod Rule
pub mod Steps
pub mod Pass
