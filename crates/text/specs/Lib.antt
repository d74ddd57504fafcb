pub mod Yards
pub mod Drafting
pub mod Driving
pub mod Answering
