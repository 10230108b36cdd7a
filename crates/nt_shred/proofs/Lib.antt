pub mod Sets
pub mod Left
pub mod Arms
pub mod Alternatives
pub mod Grown
pub mod Ends
pub mod PlanLists
pub mod Entries
pub mod Typed
pub mod SchemaSets
pub mod Optionals
pub mod AsciiBytes
pub mod LineGrowth
pub mod Singles
pub mod Walks
pub mod OneColumn
pub mod Equal
pub mod LineArms
pub mod Cutting
pub mod RoomLeft
pub mod Whole
pub mod OptionalSteps
mod Runs
mod RunOfIntegers
mod OptionalRuns
mod OptionalValue
mod Few
