pub mod Layout
pub mod Rules
pub mod Seen
pub mod Reading
pub mod Building
pub mod Applying
pub mod Laws
pub mod Faults
