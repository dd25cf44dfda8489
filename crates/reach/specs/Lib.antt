pub mod Walks
pub mod FreeSet
