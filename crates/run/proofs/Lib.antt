pub mod Counting
pub mod OneAnswer
