pub mod Connections
pub mod Pointwise
pub mod Calling
pub mod Moving
pub mod Landing
