pub mod Committing
pub mod Ending
