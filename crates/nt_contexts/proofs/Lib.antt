pub mod Chunking
mod Committing
mod Wholes
mod Writing
mod Unwritten
pub mod Reading
pub mod BadLines
mod TakenLines
mod Publishing
mod Lines
mod LinesTaken
mod Ends
mod Lists
mod Jobs
mod Sending
mod LettingIn
mod Opens
mod Leaves
mod Kept
mod Ran
mod RanTexts
mod NewSeats
mod Worked
mod SeatsRun
mod Finished
mod Told
mod Opened
