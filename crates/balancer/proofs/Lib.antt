pub mod Sorting
pub mod Trying
pub mod Reading
