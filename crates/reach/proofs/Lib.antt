pub mod Walk
pub mod Used
pub mod TakingOut
pub mod After
pub mod Ways
