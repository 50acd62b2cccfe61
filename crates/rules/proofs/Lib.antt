pub mod Numbers
pub mod Walks
pub mod Voids
