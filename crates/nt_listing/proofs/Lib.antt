pub mod Chains
pub mod ColumnKinds
pub mod KeptTypes
pub mod FoundPages
pub mod ListingSteps
pub mod ListedColumns
pub mod ColumnsBehind
pub mod ColumnsRead
