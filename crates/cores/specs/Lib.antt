pub mod Sharing
pub mod Leads
