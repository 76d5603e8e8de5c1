pub mod Batching
pub mod Errands
pub mod Shown
