pub mod Runs
pub mod Moving
