pub mod Figures
pub mod Listings
pub mod Turns
pub mod Named
pub mod Cuts
pub mod Readings
