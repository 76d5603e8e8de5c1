pub mod Past
pub mod Decide
pub mod State
pub mod Belonging
pub mod Steps
pub mod Inside
