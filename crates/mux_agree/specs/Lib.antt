pub mod Agree
pub mod Walk
pub mod Facts
pub mod Tallies
pub mod Outlines
pub mod Seen
