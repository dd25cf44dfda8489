pub mod Encoded
pub mod Decoded
