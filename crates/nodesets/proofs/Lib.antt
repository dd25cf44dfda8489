pub mod Word
pub mod Set
