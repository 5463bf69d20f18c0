pub mod Views
pub mod Calls
pub mod Words
pub mod Items
pub mod Entries
pub mod Held
pub mod PackedSound
pub mod PagedSound
