pub mod Things
pub mod Entries
pub mod Finding
pub mod Counting
pub mod Sound
pub mod Laws
