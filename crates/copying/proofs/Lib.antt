pub mod Blocks
pub mod Meets
pub mod Narrowed
pub mod Copies
