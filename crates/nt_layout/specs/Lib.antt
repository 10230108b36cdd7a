pub mod Headers
pub mod Groups
pub mod Finished
pub mod Beside
pub mod Laid
pub mod Arranged
