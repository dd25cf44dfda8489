-- Every call keeps the invariant, so every reached table has it (CallKeeps: `good`). These join the reasons of the rules to the single changes of
-- the room of the invariant, and may use all rooms before.
pub mod Aside
pub mod Good
pub mod StepKeeps
pub mod TakeOut
pub mod Hops
pub mod FetchKeeps
pub mod CallKeeps
