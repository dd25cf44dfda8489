pub mod Ways
pub mod OneAnswer
