pub mod Leaves
pub mod Counts
pub mod Clusters
pub mod Totals
pub mod Scans
pub mod Steps
