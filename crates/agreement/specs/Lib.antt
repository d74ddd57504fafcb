pub mod Histories
pub mod Lives
pub mod Promise
