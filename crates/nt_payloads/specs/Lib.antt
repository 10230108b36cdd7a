pub mod Framed
pub mod ListTexts
pub mod Conditions
pub mod Descriptions
pub mod Footers
pub mod Outlines
pub mod Files
