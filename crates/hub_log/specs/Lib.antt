pub mod Moves
pub mod Bag
pub mod Views
pub mod Rule
pub mod Sources
pub mod Headline
pub mod Turns
