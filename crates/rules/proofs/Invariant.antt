-- The invariant, clause by clause, over the tables seen as functions of a node's or a seat's number; and each single change that keeps it: a
-- seat moves, a marked node is passed over, a claim is linked in, left, or given a node. These may use the ground and the comparison's laws;
-- none of them knows where a word stands, or which step makes the change.
pub mod View
pub mod Phases
pub mod Clauses
pub mod Known
pub mod SeatShapes
pub mod SeatMoves
pub mod SeatRules
pub mod Unlink
pub mod Insert
pub mod Leave
pub mod Take
