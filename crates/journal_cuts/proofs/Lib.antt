pub mod Same
pub mod Cutting
pub mod Windows
pub mod Nothing
pub mod Legality
pub mod Resting
pub mod BeginningAgain
pub mod Cases
