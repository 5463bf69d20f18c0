pub mod Mixes
pub mod Areas
pub mod Drives
