pub mod Arrays
mod Decimals
mod LentEnds
pub mod Numbers
mod Optionals
pub mod Parts
pub mod Places
mod ShortTexts
mod SimpleTexts
mod TripleTable
