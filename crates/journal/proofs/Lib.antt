pub mod Layouts
pub mod Scans
pub mod Reading
pub mod Taking
pub mod Filling
pub mod Wiping
pub mod Examples
pub mod Keeps
