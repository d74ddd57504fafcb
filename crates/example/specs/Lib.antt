pub mod Liar
