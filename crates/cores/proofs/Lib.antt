pub mod Tests
pub mod Cores
pub mod Wordings
pub mod Leads
pub mod Tables
