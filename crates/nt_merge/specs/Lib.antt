pub mod Comparing
pub mod Files
pub mod Planning
pub mod Mergeable
pub mod Fronts
pub mod Merging
pub mod Copying
pub mod Joining
