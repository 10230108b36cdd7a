pub mod Defects
