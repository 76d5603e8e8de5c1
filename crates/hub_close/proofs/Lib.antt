pub mod Everywhere
pub mod Counting
pub mod Standing
pub mod Classes
pub mod Fronts
pub mod Lists
