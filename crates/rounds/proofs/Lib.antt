pub mod Words
pub mod Groups
pub mod Laws
pub mod Phases
pub mod Slots
pub mod Existence
