pub mod Hands
pub mod Refusals
pub mod Calls
pub mod Events
pub mod Sides
pub mod Cores
