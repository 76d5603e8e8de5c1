pub mod Batching
pub mod Handing
pub mod Filling
