pub mod TextLemmas
pub mod Answered
pub mod Unasked
pub mod Placed
pub mod Once
