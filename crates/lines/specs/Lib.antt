pub mod Verbs
pub mod Forms
pub mod Lines
