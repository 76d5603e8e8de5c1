pub mod Past
pub mod State
pub mod Inside
pub mod Decide
pub mod Belonging
pub mod Steps
