pub mod Reading
pub mod Bounds
pub mod OneAnswer
