pub mod Members
pub mod Orders
pub mod Sweeping
pub mod Finding
pub mod ReadSteps
pub mod Winning
pub mod Scanned
pub mod OwnOrders
mod WinnersExamples
