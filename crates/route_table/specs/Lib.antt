pub mod Routes
pub mod Address
pub mod Fault
pub mod Table
pub mod Entries
pub mod Views
