pub mod Numbers
pub mod Grammar
pub mod Values
pub mod Elements
pub mod Tokens
pub mod Calls
pub mod Reading
