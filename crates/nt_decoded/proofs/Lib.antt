pub mod Windows
pub mod PageSteps
pub mod ColumnKinds
pub mod Changes
pub mod ColumnSteps
pub mod KeptTypes
pub mod Fitting
pub mod Printed
