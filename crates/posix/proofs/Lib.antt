pub mod Signs
pub mod One
pub mod Lists
pub mod Calls
pub mod OneAnswer
