pub mod Staying
pub mod Looking
