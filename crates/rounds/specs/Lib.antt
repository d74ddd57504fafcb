pub mod Rows
pub mod Rounds
pub mod Laws
pub mod Slots
pub mod Agreement
