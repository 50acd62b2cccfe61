pub mod Counting
pub mod Handing
pub mod Promised
pub mod Waking
pub mod Stepping
pub mod Turning
pub mod Playing
