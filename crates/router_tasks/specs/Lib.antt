pub mod Drains
pub mod Rejoins
pub mod Stops
pub mod Rows
