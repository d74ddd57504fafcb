pub mod Impossible
pub mod Own
