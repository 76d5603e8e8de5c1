pub mod Answering
pub mod Lines
pub mod Requests
pub mod Talking
pub mod Unsent
pub mod Words
