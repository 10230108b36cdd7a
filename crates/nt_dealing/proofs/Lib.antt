mod Faultless
pub mod Written
mod Filled
pub mod Noted
mod AllPublished
mod Owned
mod Filling
mod Dealt
pub mod EventLines
mod Lists
pub mod Lengths
pub mod Files
pub mod ReadFits
pub mod TableFits
mod Takings
mod Undealt
mod Permuted
mod Fronts
mod Longest
mod Grouped
pub mod Whole
mod Committed
mod CommittedLimits
pub mod Fitting
