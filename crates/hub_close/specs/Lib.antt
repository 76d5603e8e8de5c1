pub mod Packing
pub mod Receipts
pub mod Receiving
pub mod Totals
pub mod Words
