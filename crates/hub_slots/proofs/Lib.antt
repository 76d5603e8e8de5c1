pub mod Keeping
pub mod OfOne
