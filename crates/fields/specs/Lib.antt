pub mod Reading
pub mod Numbers
pub mod Fields
pub mod Values
pub mod Numerals
pub mod Readings
pub mod Parting
