pub mod InOrder
pub mod ByName
pub mod Back
pub mod Shuffled
pub mod NamesInOrder
