pub mod Commands
pub mod Disconnects
pub mod Members
pub mod Texts
