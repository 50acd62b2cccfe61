pub mod Rules
pub mod Banks
pub mod Sets
pub mod Texts
pub mod Joins
pub mod Facts
