pub mod Carrying
pub mod Clocking
pub mod Counting
pub mod Leaving
pub mod Losing
