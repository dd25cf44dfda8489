-- What a call leaves as it was: of the seats, of the nodes, of the claims, of the title; where a step leaves its seat; and how a call moves the two
-- counts, which stay right. Of any tables. May use all rooms before.
pub mod SeatFrames
pub mod NodeFrames
pub mod ClaimFrames
pub mod AfterStep
pub mod Entered
pub mod CountFrames
pub mod TitleFrames
pub mod Uncovered
