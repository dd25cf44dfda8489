-- Demand 3, stage by stage, of tables that are reached: a seat that is stepped alone comes to rest, within a number of steps that the stages add
-- up to, and whoever waits has a cause. Stated in Cause; may use all rooms before.
pub mod Within
pub mod Alone
pub mod ReaderAlone
pub mod WriterAlone
pub mod WalkAlone
pub mod LooseWalkAlone
pub mod FetchAlone
pub mod RestsAlone
pub mod WaitTells
pub mod Causes
pub mod EveryWait
pub mod StepsAlone
pub mod NobodyWaits
pub mod SheetsAlone
