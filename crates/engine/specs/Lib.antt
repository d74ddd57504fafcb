pub mod Refusals
pub mod Words
pub mod Rows
pub mod Tests
pub mod Stages
pub mod Controllers
pub mod Promises
