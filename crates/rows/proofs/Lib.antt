pub mod Filling
pub mod OneAnswer
