pub mod MovesDown
pub mod MovesUp
pub mod Tied
pub mod Holding
pub mod Sitting
pub mod Numbering
pub mod Seating
pub mod Laws
