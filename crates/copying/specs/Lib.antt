pub mod Memory
pub mod Facts
pub mod Meaning
