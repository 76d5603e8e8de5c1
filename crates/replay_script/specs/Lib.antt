pub mod Ends
pub mod Judged
pub mod Nexts
pub mod Touched
