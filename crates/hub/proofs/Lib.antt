pub mod Reporting
pub mod Taken
mod NumbersDown
mod NumbersUp
mod Followed
mod Onward
mod Homeward
mod OneCall
mod Outgoing
pub mod Opening
pub mod Taking
pub mod Telling
pub mod Ending
pub mod Covered
