pub mod Initiation
