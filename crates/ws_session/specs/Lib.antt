pub mod Calls
pub mod Pumping
pub mod Halves
pub mod Rounds
pub mod OverNode
