pub mod Codes
pub mod OneAnswer
pub mod Told
pub mod ScriptTold
