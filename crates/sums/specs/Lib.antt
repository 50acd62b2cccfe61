pub mod Sums
pub mod Bounds
pub mod Facts
