pub mod Ranges
pub mod Gathering
pub mod ClusterLines
pub mod Listing
pub mod SoundClusters
pub mod Showing
pub mod FieldLines
