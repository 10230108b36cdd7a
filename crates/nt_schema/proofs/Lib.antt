pub mod RowSteps
pub mod Appended
pub mod ByName
pub mod Extending
pub mod WholeRows
pub mod BareRows
