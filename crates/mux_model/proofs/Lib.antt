pub mod Backwards
pub mod Epochs
pub mod Rows
pub mod HistoryRows
pub mod EdgeRows
pub mod LaterRows
pub mod RollRows
pub mod Happens
