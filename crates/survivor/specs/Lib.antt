pub mod Sets
pub mod Refusals
pub mod Drafts
pub mod Seals
pub mod Sealing
