pub mod Counts
pub mod Up
pub mod Down
pub mod Batches
pub mod Figures
pub mod Records
pub mod Giving
pub mod Leaving
