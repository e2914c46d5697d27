pub mod DistinctNames
pub mod WantsCounted
pub mod WantsNumbered
mod TurnsSeen
mod WantsOwned
pub mod Gone
pub mod Wishing
mod Putting
pub mod MarksPlaced
pub mod Confirmed
mod Unreserved
pub mod RowsBring
pub mod HeldNames
pub mod Released
pub mod HoldsStaying
pub mod HoldsOn
pub mod HoldsEndedIn
pub mod HoldsEnding
pub mod PlacingSteps
pub mod PlacingHolds
pub mod PlacingSubs
pub mod PlacingWalk
pub mod PlacingJournal
pub mod PlacingTurn
