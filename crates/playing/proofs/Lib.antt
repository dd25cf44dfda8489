pub mod Listing
pub mod Holding
pub mod Ending
pub mod Turns
pub mod Whole
pub mod OneAnswer
