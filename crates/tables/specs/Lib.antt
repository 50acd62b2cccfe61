pub mod Values
pub mod Rows
pub mod Tables
pub mod Stores
pub mod Texts
