pub mod Pages
pub mod Sizes
pub mod Places
pub mod Paged
