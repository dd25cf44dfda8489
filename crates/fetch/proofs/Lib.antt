pub mod Taking
pub mod Ways
