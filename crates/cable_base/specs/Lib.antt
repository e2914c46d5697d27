pub mod Causes
pub mod Memory
pub mod Troubles
pub mod Squeeze
pub mod Names
pub mod Hash
