pub mod Appended
mod Behind
mod Claimed
mod Ending
mod Entering
mod Following
mod Fresh
mod Handed
mod Holding
mod Leaving
mod ListSteps
pub mod Listed
mod Listing
mod Noting
mod Owned
pub mod Placing
mod Publishing
mod Reserving
mod Returning
mod Short
mod Standing
mod Stepping
mod Telling
mod ToldRanges
mod Unpublished
pub mod Unstaged
