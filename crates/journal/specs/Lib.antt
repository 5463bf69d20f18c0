pub mod Layout
pub mod Writes
pub mod Taken
pub mod Fills
pub mod Wipes
pub mod Example
