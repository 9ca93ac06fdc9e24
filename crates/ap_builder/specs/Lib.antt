pub mod Paths
pub mod Offers
pub mod Work
pub mod Answers
pub mod Meanings
pub mod Views
