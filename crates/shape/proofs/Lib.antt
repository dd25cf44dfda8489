pub mod Part
pub mod Tests
pub mod Counted
