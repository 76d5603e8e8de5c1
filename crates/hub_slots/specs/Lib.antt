pub mod Histories
pub mod Choosing
pub mod Showing
pub mod Locked
pub mod Ending
