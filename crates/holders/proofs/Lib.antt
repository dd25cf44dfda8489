pub mod Rows
pub mod Owned
pub mod Gathering
