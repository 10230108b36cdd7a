mod Fields
mod Given
mod Joined
mod Pieces
