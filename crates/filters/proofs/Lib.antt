pub mod Extremes
pub mod Runs
