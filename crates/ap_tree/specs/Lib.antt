pub mod Files
pub mod Changes
pub mod Written
pub mod Slots
