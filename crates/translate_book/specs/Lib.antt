pub mod Book
pub mod Entries
pub mod Near
pub mod Sound
pub mod Values
