pub mod Holds
pub mod HoldMaps
pub mod Entries
