pub mod Ends
pub mod Running
pub mod Listed
pub mod Visits
pub mod Facts
