pub mod Envelopes
pub mod Headers
pub mod Outlines
pub mod Describes
pub mod Clusters
pub mod Counts
pub mod Files
pub mod Holds
