pub mod Refusals
pub mod Thresholds
pub mod Laws
