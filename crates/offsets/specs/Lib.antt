pub mod Offsets
pub mod Facts
