pub mod Rings
pub mod Meaning
pub mod Facts
