pub mod Takings
mod Turns
