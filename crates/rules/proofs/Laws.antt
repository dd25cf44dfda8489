-- What follows from one definition of specs/ by itself: the words after a store, sound shape clause by clause, the two counts, what is met and where the
-- list ends, which nodes stay when marked ones are taken out and by which stores, what each number of the comparison says, what two claims share, what an
-- answer tells, that a run is its steps, that the board on numbers is the board on rows, that covered counts a frame once, why a list of records, a lock or a
-- claim in it is refused and what it is moved to, there and back, that two results of one promise are equal. They may use specs/ and the ground, and hold for
-- any tables.
pub mod Opened
pub mod Words
pub mod Shape
pub mod Counts
pub mod NodesAlone
pub mod Listed
pub mod Kept
pub mod Stores
pub mod StoreCounts
pub mod Free
pub mod Compared
pub mod SharedRuns
pub mod Answers
pub mod RunSteps
pub mod BoardNumbers
pub mod Covered
pub mod ScriptRefused
pub mod Records
pub mod Locks
pub mod LocksRefused
pub mod ThereAndBack
pub mod OneAnswer
pub mod Meanings
