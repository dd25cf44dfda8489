pub mod Arms
pub mod OwnWords
