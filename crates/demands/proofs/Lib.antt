pub mod Made
pub mod MadeByRules
pub mod Library
