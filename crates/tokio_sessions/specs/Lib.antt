pub mod Finding
pub mod Lacking
pub mod Passing
pub mod Reading
pub mod Unsent
pub mod Weaving
pub mod Writing
