pub mod Walks
pub mod Narrows
