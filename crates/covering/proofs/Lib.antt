pub mod Moving
pub mod Placing
pub mod Sweeping
