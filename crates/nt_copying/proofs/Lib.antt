pub mod CopiedPages
pub mod Runs
pub mod PagesFound
pub mod FoundPages
pub mod CopiedMetas
pub mod Keyed
