pub mod Addresses
pub mod Changes
pub mod Entering
pub mod Limits
pub mod Steps
pub mod Values
