pub mod Prefixes
pub mod Adding
pub mod Following
pub mod Marking
