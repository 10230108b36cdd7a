pub mod Chunks
pub mod Places
pub mod Chaining
pub mod Answering
pub mod Beside
pub mod Parts
