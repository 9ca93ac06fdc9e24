pub mod Views
pub mod Tickets
pub mod Learned
pub mod Seats
