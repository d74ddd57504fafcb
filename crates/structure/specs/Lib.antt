pub mod Groups
pub mod Meanings
