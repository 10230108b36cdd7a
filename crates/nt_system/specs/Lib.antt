pub mod Real
