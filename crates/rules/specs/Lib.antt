pub mod Rules
pub mod Own
