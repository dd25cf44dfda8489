pub mod Bounded
pub mod There
