-- The door: what is proved of the rules, each file statements alone.
pub mod Histories
pub mod Reaching
pub mod Refusing
pub mod Apart
pub mod Shared
pub mod Cause
pub mod Covered
pub mod HowMany
pub mod Title
pub mod Stores
pub mod Archive
pub mod Reserved
pub mod Sheets
-- The rooms behind it, in the order in which they may use each other; the first line of each says what it proves.
pub mod Ground
pub mod Laws
pub mod Invariant
pub mod Rules
pub mod Frames
pub mod Keeping
pub mod Soundness
pub mod Holding
pub mod Waiting
