pub mod Writer
pub mod Written
pub mod Beside
pub mod Changing
pub mod Closing
pub mod Standing
pub mod Widening
pub mod Crashes
