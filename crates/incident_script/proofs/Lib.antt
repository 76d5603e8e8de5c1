pub mod TellDown
pub mod TellUp
