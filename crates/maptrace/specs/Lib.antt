pub mod Words
pub mod Commands
pub mod Traces
pub mod Texts
