pub mod Aiming
pub mod Carrying
pub mod Leaving
pub mod Claims
pub mod Placing
