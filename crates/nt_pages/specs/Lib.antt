pub mod Image
pub mod Metas
pub mod Written
