pub mod Codes
pub mod Outcomes
pub mod Refusals
pub mod Taking
pub mod Steps
pub mod Calls
pub mod Alike
